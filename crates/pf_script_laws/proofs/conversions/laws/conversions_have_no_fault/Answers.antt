use Rattle.pf_script_laws.proofs.ConversionsLemmas.Asked.{conversions_have_no_fault}
use Rattle.pf_script_laws.proofs.conversions.laws.conversions_have_no_fault.Goals as goal

pub returns : goal.returns
returns c = conversions_have_no_fault
