use Rattle.pf_laws.proofs.PromiseLemmas.Within as within
use Rattle.pf_laws.proofs.promise.lags_are_within.Goals as goal

pub returns : goal.returns
returns c = within.lags_are_within
