use Rattle.pf_convert.proofs.Working.{IsLeastWorkSoFar}
use Rattle.pf_convert.proofs.work.least_work_in_billionths.Given as goal

abbrev pub invariant-loop-task : goal.invariant-loop-task
invariant-loop-task l = IsLeastWorkSoFar l.tasks l.task-index l.work
