use Rattle.pf_convert.specs.Fit.Lateness.{is_late}
use Rattle.pf_convert.proofs.Counts.{IsCount}
use Rattle.pf_convert.proofs.fit.lateness.late_tasks.Given as goal

abbrev pub invariant-loop-task : goal.invariant-loop-task
invariant-loop-task l = IsCount (is_late l.shown) l.shown.tasks.now l.task-index l.count
