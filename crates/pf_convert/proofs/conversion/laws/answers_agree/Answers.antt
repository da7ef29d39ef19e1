use Rattle.pf_convert.proofs.ConversionLemmas.Agreeing.{agree}
use Rattle.pf_convert.proofs.conversion.laws.answers_agree.Goals as goal

pub returns : goal.returns
returns c = agree
