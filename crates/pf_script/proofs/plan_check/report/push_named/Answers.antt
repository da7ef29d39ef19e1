use Rattle.pf_script.proofs.PlanCheckLemmas.Told.{added_to}
use Rattle.pf_script.proofs.plan_check.report.push_named.Goals as goal

pub returns : goal.returns
returns c = added_to c.push_has_name.result _ _ _ _ _ c.in_ok-extend_from_slice.ensures.items c.push_has_name.ensures
