use Rattle.std.proofs.Common.{◌≡◌, ◌∙◌, true≢false, Some, sym, ap}
use Rattle.std.specs.Prelude.{is_some, option_map}
use Rattle.pf_script.specs.Plan.Labels.{label_of_number, place_of_label, with_label}
use Rattle.pf_script.proofs.PlanLemmas.LabelPlaces.{label_at_place, label_nowhere}
use Rattle.pf_script.proofs.PlanLemmas.GivenLabels.{label_known}
use Rattle.pf_script.proofs.plan.labels.Labels.pass_on.Goals as goal

pub unreachable-requires : goal.unreachable-requires
unreachable-requires c =
    let named : label_of_number c.args.self.now c.args.id ≡ Some c.in-Some.label.now = sym c.of_number.ensures ∙ ap (option_map (λ l. l.now)) c.in-Some.is in
    let nowhere = sym (ap (place_of_label c.args.self.now) c.as_bytes.ensures.bytes) ∙ sym c.place_of.ensures ∙ c.in_default-place_of.is in
    true≢false (sym (label_known c.args.self.now c.args.id c.in-Some.label.now named) ∙ ap is_some (label_nowhere c.args.self.now c.in-Some.label.now nowhere).0)

pub go_on-requires : goal.go_on-requires
go_on-requires c = (label_at_place c.args.self.now c.as_bytes.result.now c.in-Some-place_of.place (sym c.place_of.ensures ∙ c.in-Some-place_of.is)).within

pub returns : goal.returns
returns c =
    c.go_on.ensures c.in-Some.label.now (sym (ap (place_of_label c.args.self.now) c.as_bytes.ensures.bytes) ∙ sym c.place_of.ensures ∙ c.in-Some-place_of.is)
    ∙ ap (λ label. with_label label c.args.number c.args.self.now) (sym (sym c.of_number.ensures ∙ ap (option_map (λ l. l.now)) c.in-Some.is))
