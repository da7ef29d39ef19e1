use Rattle.pf_convert.proofs.MarginsLemmas.Laws as laws
use Rattle.pf_convert.proofs.margins.laws.lower_period_is_unserved.Goals as goal

pub returns : goal.returns
returns c = laws.lower_period_is_unserved
