use Rattle.pf_convert.proofs.WordsLemmas.Commas.{IsReadTo}
use Rattle.pf_convert.proofs.words.read.read_quanta.Given as goal

abbrev pub invariant-loop-end : goal.invariant-loop-end
invariant-loop-end l = IsReadTo l.unit l.text l.quanta l.start l.end
