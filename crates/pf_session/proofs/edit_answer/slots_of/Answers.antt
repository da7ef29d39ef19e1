use Rattle.std.proofs.Common.{◌≡◌, ◌∙◌, ◌<◌, None, ap, subst, sym}
use Rattle.std.specs.Prelude.{IfSome}
use Rattle.pf_answers.specs.SlotsChanged.{first_changed}
use Rattle.pf_scenario.specs.Scenario.{slot_touched}
use Rattle.pf_session.proofs.Alike.{slots_alike}
use Rattle.pf_session.proofs.edit_answer.slots_of.Goals as goal

pub slots_changed-requires : goal.slots_changed-requires
slots_changed-requires c =
    let m = c.processors-processors.result in
    let touched = c.first_slot-touched.result in
    let now = c.now-now.result in
    subst (λ rows. IfSome touched (λ from. from < now → first_changed m rows c.rows.result.now from ≡ None)) (sym c.schedule.ensures.value)
    (subst (λ rows. IfSome touched (λ from. from < now → first_changed m c.args.desk.now.rows rows from ≡ None)) (sym c.rows.ensures)
    (slots_alike c.args.desk.now c.args.snapshot.now c.args.change now touched c.schedule.ensures.desk c.now-now.ensures.of_run c.requires.made
    c.requires.faultless (c.first_slot-touched.ensures ∙ ap (λ s. slot_touched s c.args.change) c.scenario-scenario.ensures.value) c.now-now.ensures.value m))
