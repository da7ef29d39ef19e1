use Rattle.std.proofs.Common.{◌≡◌, ◌+◌, ◌≤◌, drop, length}
use Rattle.pf_place.specs.Lent.{lent_row}
use Rattle.pf_diff.specs.Diff.{row_changes}
use Rattle.pf_diff.proofs.cells_changed.cells_of_slot.Given as goal

-- what was counted, and after it what differs on the processors left, is all that differs
abbrev pub invariant-loop-processor : goal.invariant-loop-processor
invariant-loop-processor l = record {
  whole : l.cells + length (row_changes 0 l.processor (drop l.processor (lent_row l.before)) (drop l.processor (lent_row l.after)))
      ≡ length (row_changes 0 0 (lent_row l.before) (lent_row l.after));
  few : l.cells ≤ l.processor;
}
