use Rattle.pf_laws.proofs.RepetitionLemmas.Spans as spans
use Rattle.pf_laws.proofs.repetition.a_span_decides.Goals as goal

pub returns : goal.returns
returns c = spans.span_decides
