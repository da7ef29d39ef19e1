use Rattle.pf_scenario.specs.declared.change.Change.TheVariants.{Alter}
use Rattle.pf_scenario.proofs.Keeping.{alter_held, alter_new, changed_scenario}
use Rattle.pf_scenario.proofs.scenario.Scenario.alter.Goals as goal

pub replace-requires-clause-held : goal.replace-requires-clause-held
replace-requires-clause-held c = alter_held _ _ c.args.id c.args.event c.self.view_is c.requires

pub replace-requires-clause-new : goal.replace-requires-clause-new
replace-requires-clause-new c = alter_new _ _ c.args.id c.args.event c.self.view_is c.self.invariant c.requires

pub invariant_of-self-2 : goal.invariant_of-self-2
invariant_of-self-2 c = rw c.in_ok-replace.ensures.ok (changed_scenario _ _ (Alter c.args.id c.args.event) c.self.view_is c.self.invariant c.requires)

pub returns-clause-scenario : goal.returns-clause-scenario
returns-clause-scenario c = invariant_of-self-2 c
