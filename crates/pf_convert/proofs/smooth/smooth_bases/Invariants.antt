use Rattle.std.proofs.Common.{take}
use Rattle.pf_convert.proofs.Powers.{AreDividedSoFar}
use Rattle.pf_convert.proofs.smooth.smooth_bases.Given as goal

abbrev pub invariant-loop-number : goal.invariant-loop-number
invariant-loop-number l = AreDividedSoFar (take l.number-index l.number-items) l.bases.items
