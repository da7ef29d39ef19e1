use Rattle.pf_laws.proofs.PromiseLemmas.Waiting as waiting
use Rattle.pf_laws.proofs.promise.lateness_costs_quanta.Goals as goal

pub returns : goal.returns
returns c = waiting.lateness_costs_quanta
