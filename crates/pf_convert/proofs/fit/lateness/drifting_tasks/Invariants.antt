use Rattle.pf_convert.specs.Fit.Exactness.{is_drifting}
use Rattle.pf_convert.proofs.Counts.{IsCount}
use Rattle.pf_convert.proofs.fit.lateness.drifting_tasks.Given as goal

abbrev pub invariant-loop-task : goal.invariant-loop-task
invariant-loop-task l = IsCount (is_drifting l.quantum) l.tasks l.task-index l.count
