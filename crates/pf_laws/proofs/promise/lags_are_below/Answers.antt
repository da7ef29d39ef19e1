use Rattle.pf_laws.proofs.PromiseLemmas.Below as below
use Rattle.pf_laws.proofs.promise.lags_are_below.Goals as goal

pub returns : goal.returns
returns c = below.lags_are_below
