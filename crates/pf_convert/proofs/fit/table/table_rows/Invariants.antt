use Rattle.std.proofs.Common.{◌≡◌, ◌∷◌, map, take}
use Rattle.pf_convert.specs.Fit.Table.{lower_headings, task_row, upper_headings}
use Rattle.pf_convert.proofs.fit.table.table_rows.Given as goal

abbrev pub invariant-loop-task : goal.invariant-loop-task
invariant-loop-task l = l.rows.items ≡ upper_headings l.dues ∷ lower_headings l.dues ∷ map (task_row l.shown l.dues) (take l.task-index l.shown.tasks.now)
