use Rattle.pf_convert.proofs.Rounding.{IsLoadSoFar}
use Rattle.pf_convert.proofs.planning.exact_load.Given as goal

abbrev pub invariant-loop-task : goal.invariant-loop-task
invariant-loop-task l = IsLoadSoFar l.base l.tasks l.task-index l.load
