-- The text of the object, by its keys and its arrays.
use Rattle.std.proofs.Common.{◌≡◌, ◌∙◌, ℕ, Bool, true, false, Option, List, ◌++◌, codes, refl, sym, ap, append_assoc}
use Rattle.std.specs.Fmt.{decimal}
use Rattle.serde_json.specs.Data.{Data, Items, array}
use Rattle.serde_json.specs.Written.{compact_text}
use Rattle.serde_json.proofs.OnLiterals.{serde_json_on_literals}
use Rattle.pf_lemmas.proofs.Digits.{numbered}
use Rattle.pf_vocabulary.specs.declared.names.named.Named.{Named}
use Rattle.pf_vocabulary.specs.declared.names.slot_length.SlotLength.{SlotLength}
use Rattle.pf_vocabulary.specs.declared.names.titles.Titles.{Titles}
use Rattle.pf_report.specs.Json.{names_part, slot_part}
use Rattle.pf_full.specs.Full.{object_of}

module _ (denials : Items) (entries : ℕ) (events figures lags misses : Items) (now : ℕ) (refusals schedule : Items) (settings : Data) where
  abbrev text_of_object : Titles → List ℕ
  text_of_object titles = compact_text (object_of titles (record {
    denials = array denials;
    entries = entries;
    events = array events;
    figures = array figures;
    lags = array lags;
    misses = array misses;
    now = now;
    refusals = array refusals;
    schedule = array schedule;
    settings = settings;
  }))

  abbrev IsParted : Titles → Type 0
  IsParted titles = text_of_object titles
      ≡ codes "{\"denials\":" ++ (compact_text (array denials)
      ++ (codes ",\"entries\":" ++ (decimal entries ++ (codes ",\"events\":" ++ (compact_text (array events)
      ++ (codes ",\"figures\":" ++ (compact_text (array figures)
      ++ (codes ",\"lags\":" ++ (compact_text (array lags)
      ++ (codes ",\"misses\":" ++ (compact_text (array misses)
      ++ (names_part titles ++ (codes ",\"now\":" ++ (decimal now ++ (codes ",\"refusals\":" ++ (compact_text (array refusals)
      ++ (codes ",\"schedule\":" ++ (compact_text (array schedule)
      ++ (codes ",\"settings\":" ++ (compact_text settings ++ (slot_part titles ++ codes "}")))))))))))))))))))))

  object_parts : (titles : Titles) → IsParted titles
  unfolding serde_json_on_literals
  object_parts titles = by titles.is_plan titles.names titles.slot
    where
      by : (is_plan : Bool) (names : List Named) (slot : Option SlotLength) → IsParted (record { is_plan = is_plan; names = names; slot = slot })
      by true names slot = refl
      by false names slot = refl

  -- Use: the text by its keys, of which two stand after a number, and one of these after the names.
  pub by_keys : (titles : Titles) → codes "{\"denials\":" ++ (compact_text (array denials)
      ++ ((codes ",\"entries\":" ++ (decimal entries ++ codes ",\"events\":")) ++ (compact_text (array events)
      ++ (codes ",\"figures\":" ++ (compact_text (array figures)
      ++ (codes ",\"lags\":" ++ (compact_text (array lags)
      ++ (codes ",\"misses\":" ++ (compact_text (array misses)
      ++ ((names_part titles ++ (codes ",\"now\":" ++ (decimal now ++ codes ",\"refusals\":"))) ++ (compact_text (array refusals)
      ++ (codes ",\"schedule\":" ++ (compact_text (array schedule)
      ++ (codes ",\"settings\":" ++ (compact_text settings ++ (slot_part titles ++ codes "}")))))))))))))))) ≡ text_of_object titles
  by_keys titles =
      let behind = compact_text (array refusals) ++ (codes ",\"schedule\":" ++ (compact_text (array schedule)
      ++ (codes ",\"settings\":" ++ (compact_text settings ++ (slot_part titles ++ codes "}"))))) in
      let from_figures : List ℕ → List ℕ = λ t. compact_text (array events)
      ++ (codes ",\"figures\":" ++ (compact_text (array figures)
      ++ (codes ",\"lags\":" ++ (compact_text (array lags)
      ++ (codes ",\"misses\":" ++ (compact_text (array misses) ++ t)))))) in
      let from_now = append_assoc (names_part titles) (codes ",\"now\":" ++ (decimal now ++ codes ",\"refusals\":")) behind
      ∙ ap (λ t. names_part titles ++ t) (numbered (codes ",\"now\":") now (codes ",\"refusals\":") behind) in
      ap (λ t. codes "{\"denials\":" ++ (compact_text (array denials) ++ t))
      (numbered (codes ",\"entries\":") entries (codes ",\"events\":") _
      ∙ ap (λ t. codes ",\"entries\":" ++ (decimal entries ++ (codes ",\"events\":" ++ from_figures t))) from_now)
      ∙ sym (object_parts titles)
