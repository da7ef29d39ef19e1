use Rattle.std.proofs.Common.{◌≡◌, ◌+◌, ◌++◌, drop}
use Rattle.pf_tally.specs.Figures.{responses_from}
use Rattle.pf_tally.specs.Late.{released_at}
use Rattle.pf_tally.proofs.responses.responses.Given as goal

-- those so far and those that are left are all
abbrev pub invariant-loop-slot : goal.invariant-loop-slot
invariant-loop-slot l = record {
  all : l.responses.items ++ responses_from (released_at l.task l.delays) l.task.weight.cost l.i (drop l.slot-index l.slots)
      ≡ responses_from (released_at l.task l.delays) l.task.weight.cost 1 l.slots;
  at : l.i ≡ l.slot-index + 1;
}
