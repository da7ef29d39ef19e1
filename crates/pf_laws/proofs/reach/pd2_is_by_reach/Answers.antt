use Rattle.pf_laws.proofs.ReachLemmas.Demands as demands
use Rattle.pf_laws.proofs.reach.pd2_is_by_reach.Goals as goal

pub returns : goal.returns
returns c = demands.pd2_is_by_reach
