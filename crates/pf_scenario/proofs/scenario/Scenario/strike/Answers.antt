use Rattle.pf_scenario.specs.declared.change.Change.TheVariants.{Strike}
use Rattle.pf_scenario.proofs.Keeping.{strike_held, changed_scenario}
use Rattle.pf_scenario.proofs.scenario.Scenario.strike.Goals as goal

pub take_out-requires : goal.take_out-requires
take_out-requires c = strike_held _ _ c.args.id c.self.view_is c.requires

pub invariant_of-self-2 : goal.invariant_of-self-2
invariant_of-self-2 c = rw c.in_ok-take_out.ensures.ok (changed_scenario _ _ (Strike c.args.id) c.self.view_is c.self.invariant c.requires)

pub returns-clause-scenario : goal.returns-clause-scenario
returns-clause-scenario c = invariant_of-self-2 c
