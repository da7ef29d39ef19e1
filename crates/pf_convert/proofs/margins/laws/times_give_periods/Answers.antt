use Rattle.pf_convert.proofs.MarginsLemmas.Times as times
use Rattle.pf_convert.proofs.margins.laws.times_give_periods.Goals as goal

pub returns : goal.returns
returns c = times.times_give_periods
