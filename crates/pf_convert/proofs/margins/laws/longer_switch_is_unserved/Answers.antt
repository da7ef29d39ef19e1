use Rattle.pf_convert.proofs.MarginsLemmas.Laws as laws
use Rattle.pf_convert.proofs.margins.laws.longer_switch_is_unserved.Goals as goal

pub returns : goal.returns
returns c = laws.longer_switch_is_unserved
