use Rattle.pf_laws.proofs.RepetitionLemmas.Multiples as multiples
use Rattle.pf_laws.proofs.repetition.these_are_spans.Goals as goal

pub returns : goal.returns
returns c = multiples.these_are_spans
