use Rattle.pf_convert.proofs.Common.{NoneBefore}
use Rattle.pf_convert.proofs.multiples.first_multiple.Given as goal

abbrev pub invariant-loop-k : goal.invariant-loop-k
invariant-loop-k l = NoneBefore l.a l.b l.k
