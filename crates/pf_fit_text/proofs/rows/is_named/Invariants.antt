use Rattle.std.proofs.Common.{◌≡◌, drop}
use Rattle.pf_fit_text.specs.Cells.{is_named}
use Rattle.pf_fit_text.proofs.rows.is_named.Given as goal

-- none of those passed has a name
abbrev pub invariant-loop-task : goal.invariant-loop-task
invariant-loop-task l = is_named l.names (drop l.task-index l.figures) ≡ is_named l.names l.figures
