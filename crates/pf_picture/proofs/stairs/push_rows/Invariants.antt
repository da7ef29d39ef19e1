use Rattle.std.proofs.Common.{◌≡◌, ◌≤◌, ◌+◌, ◌*◌, ◌^◌, ◌++◌, drop}
use Rattle.pf_picture.specs.Lane.{first_row}
use Rattle.pf_picture.specs.Stairs.{row_texts}
use Rattle.pf_picture.proofs.stairs.push_rows.Given as goal

-- the rows so far and those that are left are all
abbrev pub invariant-loop-window : goal.invariant-loop-window
invariant-loop-window l = record {
  text : l.text.items ++ row_texts l.lane l.label l.z (drop l.window-index l.rows) ≡ l.initial.text.items ++ row_texts l.lane l.label (first_row l.lane) l.rows;
  short : l.z ≤ 2 ^ 101 + 14 * l.window-index;
}
