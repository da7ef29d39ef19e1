use Rattle.pf_script_laws.proofs.PlanFitsLemmas.Unserved.{none_serves}
use Rattle.pf_script_laws.proofs.plan_fits.unserved_plans_have_no_schedule.Goals as goal

pub returns : goal.returns
returns c = none_serves
