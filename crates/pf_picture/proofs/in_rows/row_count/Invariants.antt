use Rattle.std.proofs.Common.{◌≡◌, ◌≤◌, length, take, filter}
use Rattle.pf_picture.specs.Rows.{is_in_row}
use Rattle.pf_picture.proofs.in_rows.row_count.Given as goal

abbrev pub invariant-loop-window : goal.invariant-loop-window
invariant-loop-window l = record {
  value : l.count ≡ length (filter (is_in_row l.scale l.course.end) (take l.window-index l.course.windows));
  few : l.count ≤ l.window-index;
}
