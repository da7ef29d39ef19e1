use Rattle.pf_script_laws.proofs.AgreementLemmas.Agreeing.{convert_and_fit_agree}
use Rattle.pf_script_laws.proofs.agreement.convert_and_fit_agree.Goals as goal

pub returns : goal.returns
returns c = convert_and_fit_agree c.scripts_are_retold.ensures
