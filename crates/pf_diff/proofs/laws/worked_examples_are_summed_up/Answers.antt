use Rattle.pf_diff.proofs.Examples.{worked_summaries}
use Rattle.pf_diff.proofs.laws.worked_examples_are_summed_up.Goals as goal

pub returns : goal.returns
returns c = worked_summaries
