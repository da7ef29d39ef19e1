use Rattle.pf_laws.proofs.ExamplesLemmas.Order.{worked_order}
use Rattle.pf_laws.proofs.examples.laws.worked_order_is_told.Goals as goal

pub returns : goal.returns
returns c = worked_order
