use Rattle.pf_script_laws.proofs.ConversionsLemmas.Saying.{plans_said}
use Rattle.pf_script_laws.proofs.conversions.laws.scripts_say_their_plans.Goals as goal

pub returns : goal.returns
returns c = plans_said
