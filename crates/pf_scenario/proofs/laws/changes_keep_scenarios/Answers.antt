use Rattle.pf_scenario.proofs.Scenarios as scenarios
use Rattle.pf_scenario.proofs.laws.changes_keep_scenarios.Goals as goal

pub returns : goal.returns
returns c = record {
  changes = scenarios.changes_keep_scenarios;
  numbers = scenarios.numbers_rise;
  opening = scenarios.opening_is_scenario;
}
