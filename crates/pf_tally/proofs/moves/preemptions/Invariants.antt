use Rattle.std.proofs.Common.{◌≡◌, ◌+◌, ◌≤◌, None, drop}
use Rattle.pf_tally.specs.Figures.{preemptions_behind}
use Rattle.pf_tally.proofs.moves.preemptions.Given as goal

-- those so far and those that are left are all
abbrev pub invariant-loop-slot : goal.invariant-loop-slot
invariant-loop-slot l = record {
  all : l.preemptions + preemptions_behind l.cost l.done l.before (drop l.slot-index l.slots) ≡ preemptions_behind l.cost 0 None l.slots;
  most : l.preemptions ≤ l.slot-index;
  count : l.done ≡ l.slot-index;
}
