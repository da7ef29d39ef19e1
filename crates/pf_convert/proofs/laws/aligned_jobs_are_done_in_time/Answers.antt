use Rattle.pf_convert.proofs.Arriving.{aligned_done}
use Rattle.pf_convert.proofs.laws.aligned_jobs_are_done_in_time.Goals as goal

pub returns : goal.returns
returns c = aligned_done
