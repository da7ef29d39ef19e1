use Rattle.pf_convert.proofs.MarginsLemmas.Laws as laws
use Rattle.pf_convert.proofs.margins.laws.more_work_is_unserved.Goals as goal

pub returns : goal.returns
returns c = laws.more_work_is_unserved
