use Rattle.pf_laws.proofs.RepetitionLemmas.Repeats as repeats
use Rattle.pf_laws.proofs.repetition.the_first_span_is_the_whole_schedule.Goals as goal

pub returns : goal.returns
returns c = repeats.first_span_is_all
