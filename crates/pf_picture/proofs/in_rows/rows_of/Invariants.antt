use Rattle.std.proofs.Common.{◌≡◌, take, filter}
use Rattle.pf_picture.specs.Rows.{is_in_row}
use Rattle.pf_picture.proofs.in_rows.rows_of.Given as goal

abbrev pub invariant-loop-window : goal.invariant-loop-window
invariant-loop-window l = l.rows.items ≡ filter (is_in_row l.scale l.course.end) (take l.window-index l.course.windows)
