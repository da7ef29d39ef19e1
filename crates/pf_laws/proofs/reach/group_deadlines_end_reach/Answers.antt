use Rattle.pf_laws.proofs.ReachLemmas.Reaching as reaching
use Rattle.pf_laws.proofs.reach.group_deadlines_end_reach.Goals as goal

pub returns : goal.returns
returns c = reaching.group_deadlines_end_reach
