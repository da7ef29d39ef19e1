use Rattle.pf_convert.proofs.Working.{IsWorkSoFar}
use Rattle.pf_convert.proofs.work.work_in_billionths.Given as goal

abbrev pub invariant-loop-task : goal.invariant-loop-task
invariant-loop-task l = IsWorkSoFar l.tasks l.task-index l.work
