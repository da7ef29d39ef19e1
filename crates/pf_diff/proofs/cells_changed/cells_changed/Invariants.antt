use Rattle.std.proofs.Common.{◌≡◌, ◌+◌, ◌*◌, ◌^◌, ◌≤◌, drop, length}
use Rattle.pf_diff.specs.Diff.{slot_changes}
use Rattle.pf_diff.proofs.cells_changed.cells_changed.Given as goal

-- what was counted, and after it what differs in the slots left, is all that differs
abbrev pub invariant-loop-t : goal.invariant-loop-t
invariant-loop-t l = record {
  whole : l.cells + length (slot_changes l.t (drop l.t l.before.rows) (drop l.t l.after.rows)) ≡ length (slot_changes 0 l.before.rows l.after.rows);
  few : l.cells ≤ l.t * 2 ^ 32;
}
