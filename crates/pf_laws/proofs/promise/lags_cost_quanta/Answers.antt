use Rattle.pf_laws.proofs.PromiseLemmas.Paid as paid
use Rattle.pf_laws.proofs.promise.lags_cost_quanta.Goals as goal

pub returns : goal.returns
returns c = paid.lags_cost_quanta
