use Rattle.pf_laws.proofs.PromiseLemmas.Showing as showing
use Rattle.pf_laws.proofs.promise.misses_show_in_lags.Goals as goal

pub returns : goal.returns
returns c = showing.misses_show_in_lags
