use Rattle.pf_scenario.specs.declared.change.Change.TheVariants.{Insert}
use Rattle.pf_scenario.proofs.Keeping.{insert_new, insert_last, changed_scenario}
use Rattle.pf_scenario.proofs.scenario.Scenario.insert.Goals as goal

pub push-requires-clause-new : goal.push-requires-clause-new
push-requires-clause-new c = insert_new _ _ c.args.event c.self.view_is c.self.invariant c.requires

pub push-requires-clause-last : goal.push-requires-clause-last
push-requires-clause-last c = insert_last _ c.self.invariant

pub invariant_of-self-2 : goal.invariant_of-self-2
invariant_of-self-2 c = rw c.in_ok-push.ensures.ok (changed_scenario _ _ (Insert c.args.event) c.self.view_is c.self.invariant c.requires)

pub returns-clause-scenario : goal.returns-clause-scenario
returns-clause-scenario c = invariant_of-self-2 c
