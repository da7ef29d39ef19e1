use Rattle.pf_laws.proofs.PromiseLemmas.Above as above
use Rattle.pf_laws.proofs.promise.lags_are_above.Goals as goal

pub returns : goal.returns
returns c = above.lags_are_above
