use Rattle.pf_script.proofs.PlanCheckLemmas.Told.{added_to}
use Rattle.pf_script.proofs.plan_check.report.push_owner.Goals as goal

pub returns : goal.returns
returns c = added_to c.push_already.result _ _ _ _ _ c.in_ok-push_shown.ensures c.push_already.ensures
