use Rattle.std.proofs.Common.{◌≡◌, ◌≤◌, map, take}
use Rattle.pf_desk.specs.Laid.{settled_of}
use Rattle.pf_desk.specs.Settled.{count_wide}
use Rattle.pf_desk.proofs.settlements.wide_among.Given as goal

abbrev pub invariant-loop-entry : goal.invariant-loop-entry
invariant-loop-entry l = record {
  counted : l.count ≡ count_wide (map settled_of (take l.entry-index l.entries));
  within : l.count ≤ l.entry-index;
}
