use Rattle.pf_convert.proofs.Arriving.{releases_apart}
use Rattle.pf_convert.proofs.laws.releases_stay_apart.Goals as goal

pub returns : goal.returns
returns c = releases_apart
