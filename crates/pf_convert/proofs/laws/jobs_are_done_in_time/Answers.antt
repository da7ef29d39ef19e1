use Rattle.pf_convert.proofs.Arriving.{done}
use Rattle.pf_convert.proofs.laws.jobs_are_done_in_time.Goals as goal

pub returns : goal.returns
returns c = done
