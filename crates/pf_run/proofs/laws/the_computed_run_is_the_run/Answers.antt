use Rattle.pf_run.proofs.Runs as runs
use Rattle.pf_run.proofs.laws.the_computed_run_is_the_run.Goals as goal

pub returns : goal.returns
returns c = runs.run_is_computed
