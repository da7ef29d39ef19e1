use Rattle.std.proofs.Common.{take}
use Rattle.pf_convert.proofs.Rounding.{IsBestSoFar}
use Rattle.pf_convert.proofs.best_base.best_of.Given as goal

abbrev pub invariant-loop-divided : goal.invariant-loop-divided
invariant-loop-divided l = IsBestSoFar l.tasks (take l.divided-index l.bases) l.best
