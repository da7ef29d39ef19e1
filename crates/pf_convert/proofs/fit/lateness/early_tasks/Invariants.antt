use Rattle.pf_convert.specs.Fit.Lateness.{is_early}
use Rattle.pf_convert.proofs.Counts.{IsCount}
use Rattle.pf_convert.proofs.fit.lateness.early_tasks.Given as goal

abbrev pub invariant-loop-task : goal.invariant-loop-task
invariant-loop-task l = IsCount (is_early) l.tasks l.task-index l.count
