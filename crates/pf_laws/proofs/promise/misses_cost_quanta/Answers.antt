use Rattle.pf_laws.proofs.PromiseLemmas.Counted as counted
use Rattle.pf_laws.proofs.promise.misses_cost_quanta.Goals as goal

pub returns : goal.returns
returns c = counted.misses_cost_quanta
