use Rattle.pf_laws.proofs.ReachLemmas.Ranking as ranking
use Rattle.pf_laws.proofs.reach.the_order_ranks_by_reach.Goals as goal

pub returns : goal.returns
returns c = ranking.order_ranks_by_reach
