use Rattle.std.proofs.Common.{◌≡◌, drop}
use Rattle.pf_convert.specs.Words.Reading.{has_quantum}
use Rattle.pf_convert.proofs.words.quanta.has_quantum.Given as goal

abbrev pub invariant-loop-other : goal.invariant-loop-other
invariant-loop-other l = has_quantum l.quantum (drop l.other-index l.quanta) ≡ has_quantum l.quantum l.quanta
