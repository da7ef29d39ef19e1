use Rattle.pf_scenario.specs.Scenario.{events_of}
use Rattle.pf_scenario.proofs.scenario.Scenario.slot_events.Goals as goal

pub returns-clause-value : goal.returns-clause-value
unfolding events_of
returns-clause-value c = rw (← c.self.view_is) c.of_slot.ensures
