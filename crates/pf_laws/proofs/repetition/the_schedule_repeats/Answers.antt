use Rattle.pf_laws.proofs.RepetitionLemmas.Repeats as repeats
use Rattle.pf_laws.proofs.repetition.the_schedule_repeats.Goals as goal

pub returns : goal.returns
returns c = repeats.repeats_after
