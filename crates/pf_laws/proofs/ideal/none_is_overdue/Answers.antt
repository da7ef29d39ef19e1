use Rattle.pf_laws.proofs.IdealLemmas.Costs as costs
use Rattle.pf_laws.proofs.ideal.none_is_overdue.Goals as goal

pub returns : goal.returns
returns c = costs.none_is_overdue
