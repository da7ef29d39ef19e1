use Rattle.std.proofs.Common.{◌≡◌, ◌≤◌, ◌+◌, ◌-◌, ◌*◌, ◌^◌, ◌++◌, None, drop}
use Rattle.pf_picture.specs.Lane.{first_row}
use Rattle.pf_picture.specs.Stairs.{shared_texts}
use Rattle.pf_picture.proofs.stairs.push_all_shared.Given as goal

-- the fields so far and those that are left are all
abbrev pub invariant-loop-window : goal.invariant-loop-window
invariant-loop-window l = record {
  text : l.text.items ++ shared_texts l.lane l.z l.before (drop l.window-index l.rows) ≡ l.initial.text.items ++ shared_texts l.lane (first_row l.lane - 14) None l.rows;
  short : l.z ≤ 2 ^ 101 + 14 * l.window-index;
}
