use Rattle.std.proofs.Common.{Some, sym, ap, ◌∙◌, arith}
use Rattle.pf_scenario.specs.Scenario.{number_of_change, plan_after}
use Rattle.pf_desk.proofs.Changes.{agrees_changed}
use Rattle.pf_desk.proofs.Metered.{counts_replayed}
use Rattle.pf_desk.proofs.Applying.{Changes, edited_applied, denied_applied, reaches_rewritten}
use Rattle.pf_desk.proofs.Uncounted.{counts_none}
use Rattle.pf_desk.proofs.scenario_run.ScenarioRun.edit_past.Goals as goal
use Rattle.pf_desk.proofs.scenario_run.ScenarioRun.edit_past.Goals.{In_ok-timeline}

pub returns-in_err-changed-clause-at_most : goal.returns-in_err-changed-clause-at_most
returns-in_err-changed-clause-at_most c = counts_none _ _

pub make-requires : goal.make-requires
make-requires c = rw c.in_ok-changed.ensures.value c.requires.checked

pub returns-in_err-id-clause-at_most : goal.returns-in_err-id-clause-at_most
returns-in_err-id-clause-at_most c = counts_none _ _

pub rewritten-requires-clause-agrees : goal.rewritten-requires-clause-agrees
rewritten-requires-clause-agrees c =
    rw (c.in_ok-id.ensures.ok.1, c.in_ok-changed.ensures.value)
    (agrees_changed _ _ _ _ c.requires.stands.run c.requires.checked.faultless (c.requires.checked.touched ∙ ap Some (sym c.first_slot-from.ensures)) (omega (arith, c.requires.below, c.first_slot-from.ensures)))

pub returns-in_err-timeline-clause-at_most : goal.returns-in_err-timeline-clause-at_most
returns-in_err-timeline-clause-at_most c =
    rw (← c.first_slot-from.ensures)
    (counts_replayed _ _ _ _ _ _ (omega (arith, c.requires.below, c.first_slot-from.ensures)) c.rewritten.ensures.at_most c.rewritten.ensures.close c.requires.stands.near c.rewritten.ensures.within)

changes : (c : In_ok-timeline) →
    Changes c.args.self.now c.args.checked.change c.in_ok-id.id (record { scenario = c.make.new.self; timeline = c.in_ok-timeline.timeline })
changes c = record {
  faultless = c.requires.checked.faultless;
  id_is = c.in_ok-id.ensures.ok.0 ∙ ap (λ plan. number_of_change plan c.args.checked.change) c.in_ok-changed.ensures.value;
  scenario = c.in_ok-id.ensures.ok.1 ∙ ap (λ plan. plan_after plan c.args.checked.change) c.in_ok-changed.ensures.value;
  stands = c.in_ok-timeline.ensures.stands;
  near = reaches_rewritten _ _ _ _ c.requires.stands.near c.in_ok-timeline.ensures.near c.in_ok-timeline.ensures.stands.slots;
  every = c.in_ok-timeline.ensures.every;
}

pub returns-in-Some-clause-ok : goal.returns-in-Some-clause-ok
returns-in-Some-clause-ok c =
    rw c.would_deny.ensures
    (denied_applied _ _ _ _ (changes ((goal.at.returns-in-Some-clause-ok c).In_ok-timeline)) c.args.strict c.in-Some.denied c.requires.stands
    (rw (← c.denials.ensures) (sym c.objection.ensures ∙ c.in-Some.is)))

pub returns-in-Some-clause-at_most : goal.returns-in-Some-clause-at_most
returns-in-Some-clause-at_most c =
    rw (← c.first_slot-from.ensures)
    (counts_replayed _ _ _ _ _ _ (omega (arith, c.requires.below, c.first_slot-from.ensures)) c.rewritten.ensures.at_most c.rewritten.ensures.close c.requires.stands.near c.rewritten.ensures.within)

pub returns-clause-ok : goal.returns-clause-ok
returns-clause-ok c =
    edited_applied _ _ _ _ (changes ((goal.at.returns-clause-ok c).In_ok-timeline)) c.args.strict
    (rw (← c.denials.ensures) (sym c.objection.ensures ∙ c.in_default.is))

pub returns-clause-at_most : goal.returns-clause-at_most
returns-clause-at_most c =
    rw (← c.first_slot-from.ensures)
    (counts_replayed _ _ _ _ _ _ (omega (arith, c.requires.below, c.first_slot-from.ensures)) c.rewritten.ensures.at_most c.rewritten.ensures.close c.requires.stands.near c.rewritten.ensures.within)
