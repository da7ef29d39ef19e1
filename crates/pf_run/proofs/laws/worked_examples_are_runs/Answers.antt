use Rattle.pf_run.proofs.Examples.{worked_examples}
use Rattle.pf_run.proofs.laws.worked_examples_are_runs.Goals as goal

pub returns : goal.returns
returns c = worked_examples
