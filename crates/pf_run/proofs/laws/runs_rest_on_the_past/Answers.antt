use Rattle.pf_run.proofs.Runs as runs
use Rattle.pf_run.proofs.laws.runs_rest_on_the_past.Goals as goal

pub returns : goal.returns
returns c = runs.runs_rest_on_past
