use Rattle.pf_laws.proofs.NecessityLemmas.Missed as missed
use Rattle.pf_laws.proofs.necessity.more_than_fit_is_missed.Goals as goal

pub returns : goal.returns
returns c = missed.more_than_fit_is_missed
