use Rattle.pf_convert.proofs.MarginsLemmas.Laws as laws
use Rattle.pf_convert.proofs.margins.laws.most_work_is_served.Goals as goal

pub returns : goal.returns
returns c = laws.most_work_is_served
