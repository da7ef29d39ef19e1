use Rattle.std.proofs.Common.{take}
use Rattle.pf_convert.proofs.Common.{IsSoFar}
use Rattle.pf_convert.proofs.multiples.least_common.Given as goal

abbrev pub invariant-loop-task : goal.invariant-loop-task
invariant-loop-task l = IsSoFar (take l.task-index l.tasks) l.least
