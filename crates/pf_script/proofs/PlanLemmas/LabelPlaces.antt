-- Where a label stands among the labels, and what is given to it.
use Rattle.std.proofs.Common.{◌≡◌, ℕ, zero, suc, ◌+◌, ◌<◌, ◌∙◌, Bool, true, false, true≢false, List, [], ◌∷◌, ◌++◌, Option, None, Some, length, refl, sym, ap, subst, inl, inr, arith}
use Rattle.std.specs.Prelude.{cond, if◌then◌else◌, option_map, All, slice_index_or, slice_set}
use Rattle.std.specs.Map.{update}
use Rattle.std.specs.Str.{bytes_eq}
use Rattle.std.proofs.lemmas.Bool.{cases_Bool, ne_eqb}
use Rattle.std.proofs.lemmas.List.Elements.{All-head, All-tail}
use Rattle.std.proofs.lemmas.Slice.Eq.{bytes_eq-Decides}
use Rattle.pf_vocabulary.specs.Names.Text.{is_text}
use Rattle.pf_script.specs.declared.plan.labels.Labelled.{Labelled}
use Rattle.pf_script.specs.Plan.Labels.{labels_with, number_of_label, place_of_label, relabelled}

-- a label is at this place
pub record IsAt (labels : List Labelled) (label : List ℕ) (place : ℕ) : Type 0 where
  pub within : place < length labels
  pub number : (d : Labelled) → number_of_label labels label ≡ Some (slice_index_or labels place d).number
  pub given : (number : ℕ) (d : Labelled) → labels_with label number labels ≡ slice_set labels place (relabelled (slice_index_or labels place d) number)

abbrev first_or : Bool → Option ℕ → Option ℕ
first_or b rest = if b then Some 0 else option_map (λ place. place + 1) rest

at_first : (b : Bool) (rest : Option ℕ) (place : ℕ) → b ≡ true → first_or b rest ≡ Some place → place ≡ 0
at_first true rest place same h = cc
at_first false rest place same h = absurd (cc)

after_first : (b : Bool) (rest : Option ℕ) (place : ℕ) → b ≡ false → first_or b rest ≡ Some place → (q : ℕ) × (rest ≡ Some q) × (place ≡ suc q)
after_first true rest place other h = absurd (cc)
after_first false None place other h = absurd (cc)
after_first false (Some q) place other h = (q, refl, (let found : q + 1 ≡ place = cc in omega (arith, found)))

not_first : (b : Bool) (rest : Option ℕ) → first_or b rest ≡ None → (b ≡ false) × (rest ≡ None)
not_first true rest h = absurd (cc)
not_first false None h = (refl, refl)
not_first false (Some q) h = absurd (cc)

pub label_at_place : (labels : List Labelled) (label : List ℕ) (place : ℕ) → place_of_label labels label ≡ Some place → IsAt labels label place
label_at_place [] label place h = absurd (cc)
label_at_place (first ∷ labels) label place h =
    elim (cases_Bool (bytes_eq first.name label)) [
      | inl same ↦
          subst (λ p. IsAt (first ∷ labels) label p) (sym (at_first (bytes_eq first.name label) (place_of_label labels label) place same h)) (record {
            within = omega arith;
            number = λ d. ap (λ b. if b then Some first.number else number_of_label labels label) same;
            given = λ number d. ap (λ b. if b then relabelled first number ∷ labels else first ∷ labels_with label number labels) same;
          })
      | inr other ↦
          let next = after_first (bytes_eq first.name label) (place_of_label labels label) place other h in
          let rest = label_at_place labels label next.0 next.1 in
          subst (λ p. IsAt (first ∷ labels) label p) (sym next.2) (record {
            within = omega (arith, rest.within);
            number = λ d. ap (λ b. if b then Some first.number else number_of_label labels label) other ∙ rest.number d;
            given = λ number d.
                ap (λ b. if b then relabelled first number ∷ labels else first ∷ labels_with label number labels) other
                ∙ ap (λ more. first ∷ more) (rest.given number d);
          })
    ]

-- without a place it is not known, and comes after the others
pub label_nowhere : (labels : List Labelled) (label : List ℕ) → place_of_label labels label ≡ None
    → (number_of_label labels label ≡ None) × ((number : ℕ) → labels_with label number labels ≡ labels ++ record { name = label; number = number } ∷ [])
label_nowhere [] label h = (refl, λ number. refl)
label_nowhere (first ∷ labels) label h =
    let split = not_first (bytes_eq first.name label) (place_of_label labels label) h in
    let rest = label_nowhere labels label split.1 in (
      ap (λ b. if b then Some first.number else number_of_label labels label) split.0 ∙ rest.0,
      λ number.
          ap (λ b. if b then relabelled first number ∷ labels else first ∷ labels_with label number labels) split.0
          ∙ ap (λ more. first ∷ more) (rest.1 number),
    )

-- what is no text is no label
pub no_text_nowhere : (labels : List Labelled) (label : List ℕ) → All (λ l. is_text l.name ≡ true) labels → is_text label ≡ false → place_of_label labels label ≡ None
no_text_nowhere [] label texts other = refl
no_text_nowhere (first ∷ labels) label texts not_text =
    elim (cases_Bool (bytes_eq first.name label)) [
      | inl same ↦
          let name : first.name ≡ label = (bytes_eq-Decides first.name label).0 same in
          absurd (true≢false (sym (All-head (λ l. is_text l.name ≡ true) first labels texts) ∙ ap is_text name ∙ not_text))
      | inr other ↦
          ap (λ b. first_or b (place_of_label labels label)) other
          ∙ ap (option_map (λ place. place + 1)) (no_text_nowhere labels label (All-tail (λ l. is_text l.name ≡ true) first labels texts) not_text)
    ]

-- places go by names alone
pub places_stay : (labels : List Labelled) (place number : ℕ) (d : Labelled) (label : List ℕ)
    → place_of_label (slice_set labels place (record { name = (slice_index_or labels place d).name; number = number })) label ≡ place_of_label labels label
places_stay [] place number d label = refl
places_stay (first ∷ labels) zero number d label = refl
places_stay (first ∷ labels) (suc place) number d label =
    ap (λ rest. first_or (bytes_eq first.name label) rest) (places_stay labels place number d label)

-- a label more, after the others
abbrev pub place_with : Option ℕ → List ℕ → ℕ → List ℕ → Option ℕ
place_with None name last label = if bytes_eq name label then Some last else None
place_with (Some place) name last label = Some place

place_moved : (was : Option ℕ) (name : List ℕ) (last : ℕ) (label : List ℕ)
    → option_map (λ place. place + 1) (place_with was name last label) ≡ place_with (option_map (λ place. place + 1) was) name (suc last) label
place_moved None name last label = by (bytes_eq name label)
  where
    by : (b : Bool) → option_map (λ place. place + 1) (if b then Some last else None) ≡ (if b then Some (suc last) else None)
    by true = ap (λ n. Some n) (omega arith)
    by false = refl
place_moved (Some place) name last label = refl

pub place_after : (labels : List Labelled) (name : List ℕ) (number : ℕ) (label : List ℕ)
    → place_of_label (labels ++ record { name = name; number = number } ∷ []) label ≡ place_with (place_of_label labels label) name (length labels) label
place_after [] name number label = by (bytes_eq name label)
  where
    by : (b : Bool) → first_or b None ≡ (if b then Some 0 else None)
    by true = refl
    by false = refl
place_after (first ∷ labels) name number label =
    elim (cases_Bool (bytes_eq first.name label)) [
      | inl same ↦
          ap (λ b. first_or b (place_of_label (labels ++ record { name = name; number = number } ∷ []) label)) same
          ∙ sym (ap (λ b. place_with (first_or b (place_of_label labels label)) name (suc (length labels)) label) same)
      | inr other ↦
          ap (λ b. first_or b (place_of_label (labels ++ record { name = name; number = number } ∷ []) label)) other
          ∙ ap (option_map (λ place. place + 1)) (place_after labels name number label)
          ∙ place_moved (place_of_label labels label) name (length labels) label
          ∙ sym (ap (λ b. place_with (first_or b (place_of_label labels label)) name (suc (length labels)) label) other)
    ]

other_stays : (was : Option ℕ) (name : List ℕ) (last : ℕ) (label : List ℕ) → bytes_eq name label ≡ false → was ≡ place_with was name last label
other_stays None name last label differs = sym (ap (λ b. if b then Some last else None) differs)
other_stays (Some place) name last label differs = refl

none_gives_way : (was : Option ℕ) (name : List ℕ) (last : ℕ) (label : List ℕ) → bytes_eq name label ≡ true → was ≡ None → Some last ≡ place_with was name last label
none_gives_way None name last label same none = sym (ap (λ b. if b then Some last else None) same)
none_gives_way (Some place) name last label same none = absurd (cc)

-- a place is noted of a label that has none
pub place_noted : (places : List ℕ → Option ℕ) (name : List ℕ) (last : ℕ) → places name ≡ None
    → (label : List ℕ) → update bytes_eq places name (Some last) label ≡ place_with (places label) name last label
place_noted places name last none label =
    elim (cases_Bool (bytes_eq name label)) [
      | inl same ↦
          ap (λ b. cond b (Some last) (places label)) same
          ∙ none_gives_way (places label) name last label same (subst (λ n. places n ≡ None) ((bytes_eq-Decides name label).0 same) none)
      | inr differs ↦ ap (λ b. cond b (Some last) (places label)) differs ∙ other_stays (places label) name last label differs
    ]

pub same_put_in : (labels : List Labelled) (place : ℕ) (d : Labelled) → place < length labels → slice_set labels place (slice_index_or labels place d) ≡ labels
same_put_in [] place d within = refl
same_put_in (first ∷ labels) zero d within = refl
same_put_in (first ∷ labels) (suc place) d within = ap (λ rest. first ∷ rest) (same_put_in labels place d (omega (arith, within)))

relabelled_on : (labelled : Labelled) (number : ℕ) → (number ≡ 0 → ⊥) → relabelled labelled number ≡ record { name = labelled.name; number = number }
relabelled_on labelled number some = ap (λ b. if b then labelled else record { name = labelled.name; number = number }) (ne_eqb number 0 some)

-- a label of the labels goes on to an event that was given a number
pub goes_on : (labels : List Labelled) (label : List ℕ) (place number : ℕ) (was : Labelled) → place_of_label labels label ≡ Some place
    → was ≡ slice_index_or labels place was → (number ≡ 0 → ⊥)
    → slice_set labels place (record { name = was.name; number = number }) ≡ labels_with label number labels
goes_on labels label place number was h read some =
    ap (slice_set labels place) (sym (relabelled_on was number some))
    ∙ ap (λ l. slice_set labels place (relabelled l number)) read
    ∙ sym ((label_at_place labels label place h).given number was)

-- and stays where none was given
pub stays : (labels : List Labelled) (label : List ℕ) (place : ℕ) → place_of_label labels label ≡ Some place → labels ≡ labels_with label 0 labels
stays [] label place h = absurd (cc)
stays (first ∷ labels) label place h =
    let at = label_at_place (first ∷ labels) label place h in
    sym (same_put_in (first ∷ labels) place first at.within) ∙ sym (at.given 0 first)
