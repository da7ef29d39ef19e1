use Rattle.pf_chart.proofs.Examples.{worked_charts}
use Rattle.pf_chart.proofs.laws.worked_examples_are_charted.Goals as goal

pub returns : goal.returns
returns c = worked_charts
