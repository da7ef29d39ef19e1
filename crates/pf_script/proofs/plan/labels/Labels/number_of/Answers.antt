use Rattle.std.proofs.Common.{◌≡◌, ◌∙◌, ◌<◌, Some, length, sym, ap, subst}
use Rattle.std.specs.Prelude.{slice_index_or}
use Rattle.pf_script.proofs.PlanLemmas.LabelPlaces.{label_at_place, label_nowhere}
use Rattle.pf_script.proofs.plan.labels.Labels.number_of.Goals as goal

pub returns-in_err-place : goal.returns-in_err-place
returns-in_err-place c =
    c.from_residual.ensures ∙ sym (label_nowhere c.args.self.now c.args.label.now (sym c.place_of.ensures ∙ c.in_err-place.was)).0

pub index-requires : goal.index-requires
index-requires c =
    subst (λ count. c.in_ok-place.place < count) (sym (c.self.inside.all.ok.0 ∙ ap (λ labels. length labels) c.self.view_is))
    (label_at_place c.args.self.now c.args.label.now c.in_ok-place.place (sym c.place_of.ensures ∙ c.in_ok-place.was)).within

pub returns : goal.returns
returns c =
    ap (λ labelled. Some labelled.number) (c.index.ensures ∙ ap (λ labels. slice_index_or labels c.in_ok-place.place c.index.result.now) c.self.view_is)
    ∙ sym ((label_at_place c.args.self.now c.args.label.now c.in_ok-place.place (sym c.place_of.ensures ∙ c.in_ok-place.was)).number c.index.result.now)
