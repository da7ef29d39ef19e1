use Rattle.pf_laws.proofs.PromiseLemmas.Tardiness as tardiness
use Rattle.pf_laws.proofs.promise.tardiness_is_bounded.Goals as goal

pub returns : goal.returns
returns c = tardiness.tardiness_is_bounded
