use Rattle.pf_run.proofs.Runs as runs
use Rattle.pf_run.proofs.laws.there_is_one_run.Goals as goal

pub returns : goal.returns
returns c = runs.one_run
