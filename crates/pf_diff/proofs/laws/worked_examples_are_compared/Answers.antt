use Rattle.pf_diff.proofs.Examples.{worked_diffs}
use Rattle.pf_diff.proofs.laws.worked_examples_are_compared.Goals as goal

pub returns : goal.returns
returns c = worked_diffs
