use Rattle.pf_code.proofs.Repeating.{table_repeats}
use Rattle.pf_code.proofs.laws.a_table_repeats.Goals as goal

pub returns : goal.returns
returns c = table_repeats c.the_first_span_is_the_whole_schedule.ensures
