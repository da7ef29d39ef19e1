use Rattle.pf_script_laws.proofs.PlanFitsLemmas.Judged.{plans_miss_nothing}
use Rattle.pf_script_laws.proofs.plan_fits.plans_miss_nothing.Goals as goal

pub returns : goal.returns
returns c = plans_miss_nothing
