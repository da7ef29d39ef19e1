use Rattle.std.proofs.Common.{rules, ◌≡◌, Some, None, subst}
use Rattle.std.specs.Prelude.{IfOk}
use Rattle.pf_scenario.specs.Scenario.{past}
use Rattle.pf_notes.specs.Point.{event_of}
use Rattle.pf_notes.specs.Reasons.{AreReasons}
use Rattle.pf_notes.proofs.Standing.{event_own, grounds_found, grounds_none}
use Rattle.pf_notes.proofs.reasons.Reasons.grounds.Goals as goal

pub grounds_for-requires : goal.grounds_for-requires
grounds_for-requires c =
    let are : AreReasons c.args.self.now c.self.inside.past.items c.self.inside.denied.items = search rules in
    let found : event_of c.args.denied.id (past c.args.self.now.state.plan c.args.self.now.state.now) ≡ Some c.in-Some.numbered = search rules in
    event_own c.args.self.now c.self.inside.past.items c.self.inside.denied.items are c.args.denied.id c.in-Some.numbered found

pub returns-in-Some : goal.returns-in-Some
returns-in-Some c =
    let are : AreReasons c.args.self.now c.self.inside.past.items c.self.inside.denied.items = search rules in
    let found : event_of c.args.denied.id (past c.args.self.now.state.plan c.args.self.now.state.now) ≡ Some c.in-Some.numbered = search rules in
    subst (λ t. IfOk c.grounds_for.result (λ g. g ≡ t))
    (grounds_found c.args.self.now c.self.inside.past.items c.self.inside.denied.items are c.args.denied c.in-Some.numbered found)
    c.grounds_for.ensures

pub returns-in-None : goal.returns-in-None
returns-in-None c =
    let are : AreReasons c.args.self.now c.self.inside.past.items c.self.inside.denied.items = search rules in
    let missed : event_of c.args.denied.id (past c.args.self.now.state.plan c.args.self.now.state.now) ≡ None = search rules in
    grounds_none c.args.self.now c.self.inside.past.items c.self.inside.denied.items are c.args.denied missed
