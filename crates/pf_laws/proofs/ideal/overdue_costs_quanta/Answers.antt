use Rattle.pf_laws.proofs.IdealLemmas.Costs as costs
use Rattle.pf_laws.proofs.ideal.overdue_costs_quanta.Goals as goal

pub returns : goal.returns
returns c = costs.overdue_costs_quanta
