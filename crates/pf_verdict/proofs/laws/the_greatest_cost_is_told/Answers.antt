use Rattle.pf_verdict.proofs.Greatest.{the_greatest_cost_is_told}
use Rattle.pf_verdict.proofs.laws.the_greatest_cost_is_told.Goals as goal

pub returns : goal.returns
returns c = the_greatest_cost_is_told
