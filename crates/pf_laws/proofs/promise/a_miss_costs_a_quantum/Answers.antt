use Rattle.pf_laws.proofs.PromiseLemmas.Promises as promises
use Rattle.pf_laws.proofs.promise.a_miss_costs_a_quantum.Goals as goal

pub returns : goal.returns
returns c = promises.miss_costs_quantum
