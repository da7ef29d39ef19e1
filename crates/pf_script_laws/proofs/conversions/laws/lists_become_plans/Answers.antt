use Rattle.pf_script_laws.proofs.ConversionsLemmas.Planned.{lists_become_plans}
use Rattle.pf_script_laws.proofs.conversions.laws.lists_become_plans.Goals as goal

pub returns : goal.returns
returns c = lists_become_plans
