use Rattle.pf_run.proofs.Runs as runs
use Rattle.pf_run.proofs.laws.runs_begin_alike.Goals as goal

pub returns : goal.returns
returns c = runs.runs_begin
