use Rattle.std.proofs.Common.{◌≡◌, ◌∙◌, ◌<◌, true, length, sym, ap, subst}
use Rattle.std.specs.Prelude.{slice_index_or, slice_set}
use Rattle.std.proofs.lemmas.List.Elements.{All-get_or, All-set}
use Rattle.pf_vocabulary.specs.Names.Text.{is_text}
use Rattle.pf_script.specs.Plan.Labels.{labels_with, place_of_label}
use Rattle.pf_script.proofs.PlanLemmas.LabelPlaces.{goes_on, places_stay, stays}
use Rattle.pf_script.proofs.plan.labels.Labels.go_on.Goals as goal

pub index_mut-requires : goal.index_mut-requires
index_mut-requires c = subst (λ count. c.args.place < count) (sym (c.self.inside.all.ok.0 ∙ ap (λ labels. length labels) c.self.view_is)) c.requires

pub invariant_of-self : goal.invariant_of-self
invariant_of-self c =
    let was = c.index_mut.result.now in
    let labels = c.self.inside.all.items in
    let read : was ≡ slice_index_or labels c.args.place was = c.index_mut.ensures.value in
    let within : c.args.place < length labels = subst (λ ls. c.args.place < length ls) (sym c.self.view_is) c.requires in (
      λ label.
          c.self.invariant.0 label
          ∙ sym
          (ap (λ l. place_of_label (slice_set labels c.args.place (record { name = l.name; number = c.args.number })) label) read
          ∙ places_stay labels c.args.place c.args.number was label),
      All-set (λ l. is_text l.name ≡ true) labels c.args.place (record { name = was.name; number = c.args.number })
          (subst (λ l. is_text l.name ≡ true) (sym read) (All-get_or (λ l. is_text l.name ≡ true) labels c.args.place was within c.self.invariant.1)) c.self.invariant.1,
    )

pub returns-then-number-ne0 : goal.returns-then-number-ne0
returns-then-number-ne0 c = λ label is.
    ap (λ labels. slice_set labels c.args.place (record { name = c.index_mut.result.now.name; number = c.args.number })) c.self.view_is
    ∙ goes_on c.args.self.now label c.args.place c.args.number c.index_mut.result.now is
    (c.index_mut.ensures.value ∙ ap (λ labels. slice_index_or labels c.args.place c.index_mut.result.now) c.self.view_is) c.if-number-ne0.true

pub returns-else-number-ne0 : goal.returns-else-number-ne0
returns-else-number-ne0 c = λ label is.
    stays c.args.self.now label c.args.place is ∙ ap (λ number. labels_with label number c.args.self.now) (sym c.if-number-ne0.false)
