use Rattle.pf_script_laws.proofs.ConversionsLemmas.Whole.{no_fault}
use Rattle.pf_script_laws.proofs.conversions.laws.scripts_have_no_fault.Goals as goal

pub returns : goal.returns
returns c = no_fault
