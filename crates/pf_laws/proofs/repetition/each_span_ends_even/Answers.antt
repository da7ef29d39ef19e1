use Rattle.pf_laws.proofs.RepetitionLemmas.Repeats as repeats
use Rattle.pf_laws.proofs.repetition.each_span_ends_even.Goals as goal

pub returns : goal.returns
returns c = repeats.spans_end_even
