use Rattle.pf_convert.proofs.Arriving.{wait_less}
use Rattle.pf_convert.proofs.laws.arrivals_wait_less_than_a_slot.Goals as goal

pub returns : goal.returns
returns c = wait_less
