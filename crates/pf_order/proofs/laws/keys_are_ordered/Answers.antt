use Rattle.pf_order.proofs.Order as order
use Rattle.pf_order.proofs.laws.keys_are_ordered.Goals as goal

pub returns : goal.returns
returns c = order.keys_are_ordered
