use Rattle.pf_why.proofs.Examples.{worked_rankings}
use Rattle.pf_why.proofs.laws.worked_examples_are_ranked.Goals as goal

pub returns : goal.returns
returns c = worked_rankings
