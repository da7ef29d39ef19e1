use Rattle.pf_laws.proofs.ExamplesLemmas.Weights.{worked_weights}
use Rattle.pf_laws.proofs.examples.laws.worked_weights_are_told.Goals as goal

pub returns : goal.returns
returns c = worked_weights
