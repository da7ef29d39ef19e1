use Rattle.pf_code.proofs.Bounds.{jobs_are_within_bounds}
use Rattle.pf_code.proofs.laws.jobs_are_within_bounds.Goals as goal

pub returns : goal.returns
returns c = jobs_are_within_bounds
