use Rattle.pf_convert.proofs.Arriving.{stay_apart}
use Rattle.pf_convert.proofs.laws.arrivals_stay_apart.Goals as goal

pub returns : goal.returns
returns c = stay_apart
