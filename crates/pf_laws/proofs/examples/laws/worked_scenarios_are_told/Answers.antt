use Rattle.pf_laws.proofs.ExamplesLemmas.Scenarios.{worked_scenarios}
use Rattle.pf_laws.proofs.examples.laws.worked_scenarios_are_told.Goals as goal

pub returns : goal.returns
returns c = worked_scenarios
