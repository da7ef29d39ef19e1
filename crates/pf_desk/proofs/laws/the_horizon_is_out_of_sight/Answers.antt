use Rattle.pf_desk.proofs.Horizons.{horizon_is_out_of_sight}
use Rattle.pf_desk.proofs.laws.the_horizon_is_out_of_sight.Goals as goal

pub returns : goal.returns
returns c = horizon_is_out_of_sight
