-- What holds of labels, after one was given.
use Rattle.std.proofs.Common.{◌≡◌, ℕ, Bool, true, false, List, [], ◌∷◌, map, refl, sym, ap, subst, ◌∙◌, true≢false, cond, Some}
use Rattle.std.specs.Prelude.{◌==◌, if◌then◌else◌, is_some, option_map, find, All}
use Rattle.std.specs.Str.{bytes_eq}
use Rattle.std.proofs.lemmas.Slice.Eq.{bytes_eq-Decides}
use Rattle.std.proofs.lemmas.List.Elements.{All-cons, All-head, All-nil, All-tail}
use Rattle.pf_script.specs.declared.plan.labels.Labelled.{Labelled}
use Rattle.pf_script.specs.Plan.Labels.{label_of_number, labels_with, number_of_label, relabelled}

-- what holds of a label with its number, and of each label with that number, holds of all
pub all_labels_with : (P : Labelled → Type 0) (label : List ℕ) (number : ℕ) (labels : List Labelled) → P (record { name = label; number = number })
    → ((l : Labelled) → P l → P (record { name = l.name; number = number })) → All P labels → All P (labels_with label number labels)
all_labels_with P label number [] new goes_on all = All-cons P (record { name = label; number = number }) [] new (All-nil P)
all_labels_with P label number (first ∷ labels) new goes_on all =
    by (bytes_eq first.name label) (all_labels_with P label number labels new goes_on (All-tail P first labels all))
  where
    either : (b : Bool) → P (if b then first else record { name = first.name; number = number })
    either true = All-head P first labels all
    either false = goes_on first (All-head P first labels all)

    by : (b : Bool) → All P (labels_with label number labels) → All P (if b then relabelled first number ∷ labels else first ∷ labels_with label number labels)
    by true more = All-cons P (relabelled first number) labels (either (number == 0)) (All-tail P first labels all)
    by false more = All-cons P first (labels_with label number labels) (All-head P first labels all) more

-- which labels there are goes by the labels alone, and not by the numbers
pub same_labels_with : (label : List ℕ) (m n : ℕ) (ls ks : List Labelled) → map (λ (l : Labelled). l.name) ls ≡ map (λ (l : Labelled). l.name) ks
    → map (λ (l : Labelled). l.name) (labels_with label m ls) ≡ map (λ (l : Labelled). l.name) (labels_with label n ks)
same_labels_with label m n [] [] h = refl
same_labels_with label m n [] (k ∷ ks) h = absurd (cc)
same_labels_with label m n (l ∷ ls) [] h = absurd (cc)
same_labels_with label m n (l ∷ ls) (k ∷ ks) h =
    let both : l.name ∷ map (λ (l : Labelled). l.name) ls ≡ k.name ∷ map (λ (l : Labelled). l.name) ks = h in
    let name : l.name ≡ k.name = cc in
    let rest : map (λ (l : Labelled). l.name) ls ≡ map (λ (l : Labelled). l.name) ks = cc in
    subst
    (λ (b : Bool). map (λ (l : Labelled). l.name) (if bytes_eq l.name label then relabelled l m ∷ ls else l ∷ labels_with label m ls)
    ≡ map (λ (l : Labelled). l.name) (if b then relabelled k n ∷ ks else k ∷ labels_with label n ks))
    (ap (λ t. bytes_eq t label) name) (by (bytes_eq l.name label) (m == 0) (n == 0) name rest (same_labels_with label m n ls ks rest))
  where
    named : (b : Bool) (j : Labelled) (number : ℕ) → (if b then j else record { name = j.name; number = number }).name ≡ j.name
    named true j number = refl
    named false j number = refl

    by : (b : Bool) (c d : Bool) → l.name ≡ k.name → map (λ (l : Labelled). l.name) ls ≡ map (λ (l : Labelled). l.name) ks
        → map (λ (l : Labelled). l.name) (labels_with label m ls) ≡ map (λ (l : Labelled). l.name) (labels_with label n ks)
        → map (λ (l : Labelled). l.name) (if b then (if c then l else record { name = l.name; number = m }) ∷ ls else l ∷ labels_with label m ls)
        ≡ map (λ (l : Labelled). l.name) (if b then (if d then k else record { name = k.name; number = n }) ∷ ks else k ∷ labels_with label n ks)
    by true c d name rest more = let one = named c l m in let other = named d k n in cc
    by false c d name rest more = cc

-- what holds of all labels holds of the one that means the event of a number
pub label_among : (P : List ℕ → Type 0) (labels : List Labelled) (id : ℕ) (label : List ℕ) → All (λ l. P l.name) labels
    → label_of_number labels id ≡ Some label → P label
label_among P [] id label all e = absurd (cc)
label_among P (first ∷ labels) id label all e =
    by (first.number == id) e (λ k. label_among P labels id label (All-tail (λ l. P l.name) first labels all) k)
  where
    by : (b : Bool) → option_map (λ l. l.name) (cond b (Some first) (find (λ l. l.number == id) labels)) ≡ Some label
        → (label_of_number labels id ≡ Some label → P label) → P label
    by true e more = let same : first.name ≡ label = cc in subst P same (All-head (λ l. P l.name) first labels all)
    by false e more = more e

-- and that one is known
pub label_known : (labels : List Labelled) (id : ℕ) (label : List ℕ) → label_of_number labels id ≡ Some label → is_some (number_of_label labels label) ≡ true
label_known [] id label e = absurd (cc)
label_known (first ∷ labels) id label e = by (first.number == id) e (λ k. label_known labels id label k)
  where
    either : (b : Bool) → is_some (number_of_label labels label) ≡ true → is_some (if b then Some first.number else number_of_label labels label) ≡ true
    either true known = refl
    either false known = known

    here : first.name ≡ label → (b : Bool) → bytes_eq first.name label ≡ b → is_some (if b then Some first.number else number_of_label labels label) ≡ true
    here same true is = refl
    here same false is = absurd (true≢false (sym ((bytes_eq-Decides first.name label).1 same) ∙ is))

    by : (b : Bool) → option_map (λ l. l.name) (cond b (Some first) (find (λ l. l.number == id) labels)) ≡ Some label
        → (label_of_number labels id ≡ Some label → is_some (number_of_label labels label) ≡ true) → is_some (number_of_label (first ∷ labels) label) ≡ true
    by true e more = let same : first.name ≡ label = cc in here same (bytes_eq first.name label) refl
    by false e more = either (bytes_eq first.name label) (more e)
