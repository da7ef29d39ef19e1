use Rattle.std.proofs.Common.{◌≡◌, ◌∙◌, ◌++◌, [], ◌∷◌, Some, None, true, ℕ, List, length, string_bytes, sym, ap, subst}
use Rattle.std.specs.BTreeMap.{get_by_text}
use Rattle.std.specs.Map.{update}
use Rattle.std.specs.Str.{bytes_eq}
use Rattle.std.proofs.lemmas.List.Elements.{All-push, All-same}
use Rattle.std.proofs.lemmas.Map.Text.{btree_map_updates_text}
use Rattle.std.proofs.lemmas.Result.{IfOk-at_ok}
use Rattle.pf_vocabulary.specs.Names.Text.{is_text}
use Rattle.pf_script.specs.declared.plan.labels.Labelled.{Labelled}
use Rattle.pf_script.specs.Plan.Labels.{place_of_label}
use Rattle.pf_script.proofs.PlanLemmas.LabelPlaces.{place_after, place_noted, place_with}
use Rattle.pf_script.proofs.plan.labels.Labels.push.Goals as goal

pub invariant_of-self-2 : goal.invariant_of-self-2
invariant_of-self-2 c =
    let labels : List Labelled = c.self.inside.all.items in
    let added : Labelled = record { name = c.args.name; number = c.args.number } in
    let after : c.push_reserved.new.self.items ≡ labels ++ added ∷ [] =
    c.push_reserved.ensures.items ∙ ap (λ items. items ++ added ∷ []) c.reserve.ensures.items in
    let named : string_bytes c.in_ok-label.label ≡ c.args.name = IfOk-at_ok (λ s. string_bytes s ≡ c.as_str.result.now) c.in_ok-label.was c.from_str.ensures.ok ∙ c.as_str.ensures in
    let last : c.len.result ≡ length labels = c.len.ensures ∙ c.reserve.ensures.len ∙ c.self.inside.all.ok.0 in (
      λ label.
          btree_map_updates_text (string_bytes c.in_ok-label.label) c.self.inside.places c.insert.new.self _ c.in_ok-insert.ensures.updates label
          ∙ ap (λ bytes. update bytes_eq (get_by_text c.self.inside.places) bytes (Some c.len.result) label) named
          ∙ place_noted (get_by_text c.self.inside.places) c.args.name c.len.result
          (c.self.invariant.0 c.args.name ∙ ap (λ ls. place_of_label ls c.args.name) c.self.view_is ∙ c.requires.new) label
          ∙ ap (λ was. place_with was c.args.name c.len.result label) (c.self.invariant.0 label)
          ∙ ap (λ count. place_with (place_of_label labels label) c.args.name count label) last
          ∙ sym (place_after labels c.args.name c.args.number label)
          ∙ sym (ap (λ ls. place_of_label ls label) after),
      All-same (λ l. is_text l.name ≡ true) c.push_reserved.new.self.items (labels ++ added ∷ []) after
          (All-push (λ l. is_text l.name ≡ true) labels added c.self.invariant.1 c.requires.text),
    )
