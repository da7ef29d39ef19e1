use Rattle.std.proofs.Common.{◌≡◌, ◌∙◌, sym, ap, subst}
use Rattle.std.specs.Prelude.{OnOk}
use Rattle.pf_script.specs.Plan.Labels.{place_of_label}
use Rattle.pf_script.proofs.PlanLemmas.LabelPlaces.{label_at_place, label_nowhere}
use Rattle.pf_script.proofs.plan.labels.Labels.give.Goals as goal

pub go_on-requires : goal.go_on-requires
go_on-requires c = (label_at_place c.args.self.now c.as_bytes.result.now c.in-Some.place (sym c.place_of.ensures ∙ c.in-Some.is)).within

pub returns-in-Some : goal.returns-in-Some
returns-in-Some c = c.go_on.ensures c.args.name (sym (ap (place_of_label c.args.self.now) c.as_bytes.ensures.bytes) ∙ sym c.place_of.ensures ∙ c.in-Some.is)

pub returns-in-None : goal.returns-in-None
returns-in-None c =
    let new = sym (ap (place_of_label c.args.self.now) c.as_bytes.ensures.bytes) ∙ sym c.place_of.ensures ∙ c.in-None.is in
    subst (λ labels. OnOk c.push.result (c.push.new.self ≡ labels)) (sym ((label_nowhere c.args.self.now c.args.name new).1 c.args.number)) c.push.ensures
