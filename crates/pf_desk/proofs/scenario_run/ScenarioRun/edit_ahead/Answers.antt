use Rattle.std.proofs.Common.{◌≤◌, IfSome, refl, ◌∙◌, sym, subst}
use Rattle.pf_scenario.specs.Scenario.{number_of_change, plan_after, slot_touched}
use Rattle.pf_desk.proofs.Applying.{ahead_changes, edited_applied, denied_applied}
use Rattle.pf_desk.proofs.scenario_run.ScenarioRun.edit_ahead.Goals as goal
use Rattle.pf_desk.proofs.scenario_run.ScenarioRun.edit_ahead.Goals.{Start}

-- the slot that it touches is not below now
ahead : (c : Start) → IfSome (slot_touched c.args.self.now.scenario c.args.checked.change) (λ t. c.args.self.now.timeline.now ≤ t)
ahead c = subst (λ o. IfSome o (λ t. c.args.self.now.timeline.now ≤ t)) (sym c.requires.checked.touched) c.requires.ahead

pub returns-in-Some-clause-ok : goal.returns-in-Some-clause-ok
returns-in-Some-clause-ok c =
    let r = c.args.self.now in
    let change = c.args.checked.change in
    rw c.would_deny.ensures
    (denied_applied r change _ (record { scenario = plan_after r.scenario change; timeline = r.timeline })
    (ahead_changes r change (number_of_change r.scenario change) _ c.requires.stands c.requires.checked.faultless (ahead ((goal.at.returns-in-Some-clause-ok c).Start)) refl refl refl)
    c.args.strict c.in-Some.denied c.requires.stands (rw (← c.denials.ensures) (sym c.objection.ensures ∙ c.in-Some.is)))

pub returns-clause-ok : goal.returns-clause-ok
returns-clause-ok c =
    let r = c.args.self.now in
    edited_applied r c.args.checked.change _ _
    (ahead_changes r c.args.checked.change _ (record { scenario = c.make.new.self; timeline = r.timeline })
    c.requires.stands c.requires.checked.faultless (ahead ((goal.at.returns-clause-ok c).Start)) c.in_ok-id.ensures.ok.0 c.in_ok-id.ensures.ok.1 refl)
    c.args.strict (rw (← c.denials.ensures) (sym c.objection.ensures ∙ c.in_default.is))
