use Rattle.pf_tally.proofs.Examples.{worked_tallies}
use Rattle.pf_tally.proofs.laws.worked_examples_are_tallied.Goals as goal

pub returns : goal.returns
returns c = worked_tallies
