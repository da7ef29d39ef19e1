use Rattle.pf_laws.proofs.PromiseLemmas.Overdue as overdue
use Rattle.pf_laws.proofs.promise.overdue_costs_quanta.Goals as goal

pub returns : goal.returns
returns c = overdue.overdue_costs_quanta
