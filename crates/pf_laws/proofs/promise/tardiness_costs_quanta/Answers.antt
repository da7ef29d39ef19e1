use Rattle.pf_laws.proofs.PromiseLemmas.Tardiness as tardiness
use Rattle.pf_laws.proofs.promise.tardiness_costs_quanta.Goals as goal

pub returns : goal.returns
returns c = tardiness.tardiness_costs_quanta
