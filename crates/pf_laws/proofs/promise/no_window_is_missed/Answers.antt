use Rattle.pf_laws.proofs.PromiseLemmas.Promises as promises
use Rattle.pf_laws.proofs.promise.no_window_is_missed.Goals as goal

pub returns : goal.returns
returns c = promises.no_window_is_missed
