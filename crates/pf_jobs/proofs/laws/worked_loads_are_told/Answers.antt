use Rattle.pf_jobs.proofs.Examples.{worked_loads}
use Rattle.pf_jobs.proofs.laws.worked_loads_are_told.Goals as goal

pub returns : goal.returns
returns c = worked_loads
