use Rattle.pf_tally.proofs.Examples.{worked_figures}
use Rattle.pf_tally.proofs.laws.worked_examples_are_told.Goals as goal

pub returns : goal.returns
returns c = worked_figures
