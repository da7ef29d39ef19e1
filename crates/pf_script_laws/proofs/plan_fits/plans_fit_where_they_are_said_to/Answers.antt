use Rattle.pf_script_laws.proofs.PlanFitsLemmas.Judged.{plans_fit}
use Rattle.pf_script_laws.proofs.plan_fits.plans_fit_where_they_are_said_to.Goals as goal

pub returns : goal.returns
returns c = plans_fit
