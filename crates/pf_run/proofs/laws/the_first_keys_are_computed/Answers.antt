use Rattle.pf_run.proofs.Runs as runs
use Rattle.pf_run.proofs.laws.the_first_keys_are_computed.Goals as goal

pub returns : goal.returns
returns c = runs.first_are_computed
