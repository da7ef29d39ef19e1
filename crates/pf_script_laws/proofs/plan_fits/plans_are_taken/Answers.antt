use Rattle.pf_script_laws.proofs.PlanFitsLemmas.Held.{plans_are_taken}
use Rattle.pf_script_laws.proofs.plan_fits.plans_are_taken.Goals as goal

pub returns : goal.returns
returns c = plans_are_taken
