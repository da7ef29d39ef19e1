use Rattle.pf_laws.proofs.RepetitionLemmas.Spans as spans
use Rattle.pf_laws.proofs.repetition.no_window_is_missed_beyond_a_span.Goals as goal

pub returns : goal.returns
returns c = spans.none_beyond
