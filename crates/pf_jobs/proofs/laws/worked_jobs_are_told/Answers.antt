use Rattle.pf_jobs.proofs.Examples.{worked_jobs}
use Rattle.pf_jobs.proofs.laws.worked_jobs_are_told.Goals as goal

pub returns : goal.returns
returns c = worked_jobs
