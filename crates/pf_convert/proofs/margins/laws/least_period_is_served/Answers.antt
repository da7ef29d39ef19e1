use Rattle.pf_convert.proofs.MarginsLemmas.Laws as laws
use Rattle.pf_convert.proofs.margins.laws.least_period_is_served.Goals as goal

pub returns : goal.returns
returns c = laws.least_period_is_served
