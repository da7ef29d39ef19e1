use Rattle.pf_convert.proofs.Dividing.{AreDivisorsBelow}
use Rattle.pf_convert.proofs.divisors.divisors_of.Given as goal

abbrev pub invariant-loop-low : goal.invariant-loop-low
invariant-loop-low l = AreDivisorsBelow l.number l.low l.divisors.items
