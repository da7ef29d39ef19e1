use Rattle.std.proofs.Common.{rules, ◌≡◌, ◌≤◌, ◌==◌, ◌∙◌, List, ℕ, not, filter, length, All, ap, sym, subst}
use Rattle.std.specs.List.{list_any}
use Rattle.pf_scenario.specs.Edit.{IsEvent}
use Rattle.pf_scenario.specs.declared.event.Numbered.{Numbered}
use Rattle.pf_run.specs.Record.{in_force}
use Rattle.pf_tally.proofs.InForce.{kept_in_force}
use Rattle.pf_desk.specs.Desk.{Seen}
use Rattle.pf_notes.specs.Reasons.{AreReasons}
use Rattle.pf_notes.proofs.Standing.{standing_limits, standing_few}
use Rattle.pf_notes.proofs.reasons.Reasons.standing.Goals as goal

pub returns-clause-value : goal.returns-clause-value
returns-clause-value c =
    let seen : c.self.inside.snapshot.now ≡ c.args.self.now = search rules in
    c.in_ok-standing.ensures
    ∙ ap (λ (numbers : List ℕ). filter (λ x. not (list_any (λ n. n == x.id) numbers)) c.args.before.now) c.deref.ensures.value
    ∙ kept_in_force _ _ c.args.before.now c.self.invariant.denied
    ∙ ap (λ (seen : Seen). in_force seen.denials c.args.before.now) seen

pub returns-clause-limits : goal.returns-clause-limits
returns-clause-limits c =
    let seen : c.self.inside.snapshot.now ≡ c.args.self.now = search rules in
    let are : AreReasons c.args.self.now c.self.inside.past.items c.self.inside.denied.items = search rules in
    let is : c.in_ok-standing.standing.items ≡ in_force c.args.self.now.denials c.args.before.now =
    c.in_ok-standing.ensures
    ∙ ap (λ (numbers : List ℕ). filter (λ x. not (list_any (λ n. n == x.id) numbers)) c.args.before.now) c.deref.ensures.value
    ∙ kept_in_force _ _ c.args.before.now c.self.invariant.denied
    ∙ ap (λ (seen : Seen). in_force seen.denials c.args.before.now) seen in
    subst (All (λ x. IsEvent c.args.self.now.state.plan.settings x.event)) (sym is)
    (standing_limits c.args.self.now c.self.inside.past.items c.self.inside.denied.items are c.args.before.now c.requires)

pub returns-clause-few : goal.returns-clause-few
returns-clause-few c =
    let seen : c.self.inside.snapshot.now ≡ c.args.self.now = search rules in
    let are : AreReasons c.args.self.now c.self.inside.past.items c.self.inside.denied.items = search rules in
    let is : c.in_ok-standing.standing.items ≡ in_force c.args.self.now.denials c.args.before.now =
    c.in_ok-standing.ensures
    ∙ ap (λ (numbers : List ℕ). filter (λ x. not (list_any (λ n. n == x.id) numbers)) c.args.before.now) c.deref.ensures.value
    ∙ kept_in_force _ _ c.args.before.now c.self.invariant.denied
    ∙ ap (λ (seen : Seen). in_force seen.denials c.args.before.now) seen in
    subst (λ (xs : List Numbered). length xs ≤ 65535) (sym is)
    (standing_few c.args.self.now c.self.inside.past.items c.self.inside.denied.items are c.args.before.now c.requires)
