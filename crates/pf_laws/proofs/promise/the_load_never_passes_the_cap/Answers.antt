use Rattle.pf_tally.proofs.Loads as loads
use Rattle.pf_laws.proofs.promise.the_load_never_passes_the_cap.Goals as goal

pub returns : goal.returns
returns c = loads.load_is_within_cap
