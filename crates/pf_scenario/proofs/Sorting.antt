-- Insertion by an order: where an element goes, and what a filter or another element makes of it.
use Rattle.std.proofs.Common.{◌≡◌, ◌≢◌, Bool, true, false, cond, List, [], ◌∷◌, ◌++◌, drop, refl, sym, ap, ◌∙◌, subst, ◌||◌, inl, inr}
use Rattle.std.specs.List.{All, filter, list_any}
use Rattle.std.specs.List.Sorted.{IsPermutation}
use Rattle.std.specs.Cmp.{IsTotalOrder}
use Rattle.std.specs.declared.cmp.Ordering.{Ordering}
use Rattle.std.specs.declared.cmp.Ordering.TheVariants.{Less, Equal, Greater}
use Rattle.std.specs.Ordering.{is_lt, ordering_reverse}
use Rattle.std.proofs.lemmas.Cmp.{alike_right}
use Rattle.std.proofs.lemmas.Bool.{cases_Bool, cond-true, cond-false, false≢true, false_from_ne_true}
use Rattle.std.proofs.lemmas.List.Elements.{All-nil, All-cons, All-head, All-tail, All-weaker, All-filter}
use Rattle.std.proofs.lemmas.List.Sorted.{IsPermutation-refl, IsPermutation-sym, IsPermutation-cons, IsPermutation-middle, IsPermutation-trans}
use Rattle.pf_lemmas.proofs.Orders.{not_both, is_less}
use Rattle.pf_scenario.proofs.Lists.{Pairs}
use Rattle.pf_scenario.specs.Sorted.{put_in_order, sorted_by}

one_of_both : (o : Ordering) → o ≢ Equal → is_lt o ≡ false → is_lt (ordering_reverse o) ≡ true
one_of_both Less differ e = cc
one_of_both Equal differ e = absurd (differ refl)
one_of_both Greater differ e = refl

pub not_after : {X : Type 0} {R : X → X → Ordering} (o : IsTotalOrder R) (x y : X) → is_lt (R x y) ≡ true → is_lt (R y x) ≡ false
not_after {R = R} o x y h = rw (o.antisymm y x) (not_both (R x y) h)

pub after : {X : Type 0} {R : X → X → Ordering} (o : IsTotalOrder R) (x y : X) → R x y ≢ Equal → is_lt (R x y) ≡ false → is_lt (R y x) ≡ true
after {R = R} o x y differ h = rw (o.antisymm y x) (one_of_both (R x y) differ h)

pub below_all : {X : Type 0} {R : X → X → Ordering} (o : IsTotalOrder R) (x y z : X) → is_lt (R x y) ≡ true → is_lt (R y z) ≡ true → is_lt (R x z) ≡ true
below_all o x y z first second = ap is_lt (o.trans x y z (is_less _ first) (is_less _ second))

-- x < y, and z is not below y
pub below_then : {X : Type 0} {R : X → X → Ordering} (o : IsTotalOrder R) (x y z : X) → is_lt (R x y) ≡ true → is_lt (R z y) ≡ false → is_lt (R x z) ≡ true
below_then {R = R} o x y z first second = below_by (R z y) refl second
  where
    below_by : (r : Ordering) → R z y ≡ r → is_lt r ≡ false → is_lt (R x z) ≡ true
    below_by Less e h = cc
    below_by Equal e h = ap is_lt (alike_right o z y x e) ∙ first
    below_by Greater e h = ap is_lt (o.trans x y z (is_less _ first) (o.antisymm y z ∙ ap ordering_reverse e))

-- y < z, and x is not below z
not_below_of : {X : Type 0} {R : X → X → Ordering} (o : IsTotalOrder R) (x y z : X) → is_lt (R y z) ≡ true → is_lt (R x z) ≡ false → is_lt (R x y) ≡ false
not_below_of {R = R} o x y z low high =
    false_from_ne_true (is_lt (R x y)) (λ below. false≢true (sym high ∙ below_all o x y z below low))

pub swap_or : (a b c : Bool) → (a || (b || c)) ≡ (b || (a || c))
swap_or true true c = refl
swap_or true false c = refl
swap_or false true c = refl
swap_or false false c = refl

-- the two ways that `put` goes
pub put_low : {X : Type 0} (R : X → X → Ordering) (x y : X) (ys : List X) → is_lt (R x y) ≡ true → put_in_order R x (y ∷ ys) ≡ x ∷ y ∷ ys
put_low R x y ys h = cond-true (is_lt (R x y)) _ _ h

pub put_high : {X : Type 0} (R : X → X → Ordering) (x y : X) (ys : List X) → is_lt (R x y) ≡ false → put_in_order R x (y ∷ ys) ≡ y ∷ put_in_order R x ys
put_high R x y ys h = cond-false (is_lt (R x y)) _ _ h

-- insertion keeps the elements
pub put_keeps : {X : Type 0} (R : X → X → Ordering) (x : X) (ys : List X) → IsPermutation (x ∷ ys) (put_in_order R x ys)
put_keeps R x [] = IsPermutation-refl (x ∷ [])
put_keeps R x (y ∷ ys) =
    let P : List _ → Type 0 = IsPermutation (x ∷ y ∷ ys) in
    elim (cases_Bool (is_lt (R x y))) [
      | inl low ↦ subst P (sym (put_low R x y ys low)) (IsPermutation-refl (x ∷ y ∷ ys))
      | inr high ↦
          subst P (sym (put_high R x y ys high))
          (IsPermutation-trans (x ∷ y ∷ ys) (y ∷ x ∷ ys) (y ∷ put_in_order R x ys)
          (IsPermutation-sym (y ∷ x ∷ ys) (x ∷ y ∷ ys) (IsPermutation-middle (y ∷ []) x ys))
          (IsPermutation-cons y (x ∷ ys) (put_in_order R x ys) (put_keeps R x ys)))
    ]

pub sorted_keeps : {X : Type 0} (R : X → X → Ordering) (xs : List X) → IsPermutation xs (sorted_by R xs)
sorted_keeps R [] = IsPermutation-refl []
sorted_keeps R (x ∷ xs) =
    IsPermutation-trans (x ∷ xs) (x ∷ sorted_by R xs) (sorted_by R (x ∷ xs))
    (IsPermutation-cons x xs (sorted_by R xs) (sorted_keeps R xs)) (put_keeps R x (sorted_by R xs))

-- two elements that the order tells apart may be put in either way round
pub put_comm : {X : Type 0} {R : X → X → Ordering} (o : IsTotalOrder R) (x y : X) → R x y ≢ Equal → R y x ≢ Equal → (zs : List X) → put_in_order R x (put_in_order R y zs) ≡ put_in_order R y (put_in_order R x zs)
put_comm {R = R} o x y differ differ' [] =
    elim (cases_Bool (is_lt (R x y))) [
      | inl low ↦ put_low R x y [] low ∙ sym (put_high R y x [] (not_after o x y low))
      | inr high ↦ put_high R x y [] high ∙ sym (put_low R y x [] (after o x y differ high))
    ]
put_comm {R = R} o x y differ differ' (z ∷ zs) =
    elim (cases_Bool (is_lt (R y z))) [
      | inl y_low ↦ elim (cases_Bool (is_lt (R x z))) [
        | inl x_low ↦ both_low y_low x_low
        | inr x_high ↦
            ap (put_in_order R x) (put_low R y z zs y_low)
            ∙ put_high R x y (z ∷ zs) (not_below_of o x y z y_low x_high)
            ∙ ap (λ ws. y ∷ ws) (put_high R x z zs x_high)
            ∙ sym (ap (put_in_order R y) (put_high R x z zs x_high) ∙ put_low R y z (put_in_order R x zs) y_low)
      ]
      | inr y_high ↦ elim (cases_Bool (is_lt (R x z))) [
        | inl x_low ↦
            ap (put_in_order R x) (put_high R y z zs y_high)
            ∙ put_low R x z (put_in_order R y zs) x_low
            ∙ sym (ap (put_in_order R y) (put_low R x z zs x_low) ∙ put_high R y x (z ∷ zs) (not_below_of o y x z x_low y_high) ∙ ap (λ ws. x ∷ ws) (put_high R y z zs y_high))
        | inr x_high ↦
            ap (put_in_order R x) (put_high R y z zs y_high)
            ∙ put_high R x z (put_in_order R y zs) x_high
            ∙ ap (λ ws. z ∷ ws) (put_comm o x y differ differ' zs)
            ∙ sym (ap (put_in_order R y) (put_high R x z zs x_high) ∙ put_high R y z (put_in_order R x zs) y_high)
      ]
    ]
  where
    both_low : is_lt (R y z) ≡ true → is_lt (R x z) ≡ true → put_in_order R x (put_in_order R y (z ∷ zs)) ≡ put_in_order R y (put_in_order R x (z ∷ zs))
    both_low y_low x_low =
        elim (cases_Bool (is_lt (R x y))) [
          | inl low ↦
              ap (put_in_order R x) (put_low R y z zs y_low)
              ∙ put_low R x y (z ∷ zs) low
              ∙ sym (ap (put_in_order R y) (put_low R x z zs x_low) ∙ put_high R y x (z ∷ zs) (not_after o x y low) ∙ ap (λ ws. x ∷ ws) (put_low R y z zs y_low))
          | inr high ↦
              ap (put_in_order R x) (put_low R y z zs y_low)
              ∙ put_high R x y (z ∷ zs) high
              ∙ ap (λ ws. y ∷ ws) (put_low R x z zs x_low)
              ∙ sym (ap (put_in_order R y) (put_low R x z zs x_low) ∙ put_low R y x (z ∷ zs) (after o x y differ high))
        ]

-- an element put in amid others, where it is told apart from those before it
pub sorted_middle : {X : Type 0} {R : X → X → Ordering} (o : IsTotalOrder R) (xs : List X) (y : X) (ys : List X) → All (λ x. (R x y ≢ Equal) × (R y x ≢ Equal)) xs → sorted_by R (xs ++ y ∷ ys) ≡ put_in_order R y (sorted_by R (xs ++ ys))
sorted_middle o [] y ys apart = refl
sorted_middle {R = R} o (x ∷ xs) y ys apart =
    let here = All-head (λ x. (R x y ≢ Equal) × (R y x ≢ Equal)) x xs apart in
    ap (put_in_order R x) (sorted_middle o xs y ys (All-tail (λ x. (R x y ≢ Equal) × (R y x ≢ Equal)) x xs apart)) ∙ put_comm o x y here.0 here.1 (sorted_by R (xs ++ ys))

-- what holds of each element, or is found, is so in any order
pub All-put : {X : Type 0} (P : X → Type 0) (R : X → X → Ordering) (x : X) (ys : List X) → P x → All P ys → All P (put_in_order R x ys)
All-put P R x [] here h = All-cons P x [] here h
All-put P R x (y ∷ ys) here h =
    elim (cases_Bool (is_lt (R x y))) [
      | inl low ↦ rw (put_low R x y ys low) (All-cons P x (y ∷ ys) here h)
      | inr high ↦ rw (put_high R x y ys high) (All-cons P y (put_in_order R x ys) (All-head P y ys h) (All-put P R x ys here (All-tail P y ys h)))
    ]

pub All-sorted_by : {X : Type 0} (P : X → Type 0) (R : X → X → Ordering) (xs : List X) → All P xs → All P (sorted_by R xs)
All-sorted_by P R [] h = h
All-sorted_by P R (x ∷ xs) h = All-put P R x (sorted_by R xs) (All-head P x xs h) (All-sorted_by P R xs (All-tail P x xs h))

pub list_any-put : {X : Type 0} (p : X → Bool) (R : X → X → Ordering) (x : X) (ys : List X) → list_any p (put_in_order R x ys) ≡ (p x || list_any p ys)
list_any-put p R x [] = refl
list_any-put p R x (y ∷ ys) =
    elim (cases_Bool (is_lt (R x y))) [
      | inl low ↦ ap (list_any p) (put_low R x y ys low)
      | inr high ↦ ap (list_any p) (put_high R x y ys high) ∙ ap (λ b. p y || b) (list_any-put p R x ys) ∙ swap_or (p y) (p x) (list_any p ys)
    ]

pub list_any-sorted_by : {X : Type 0} (p : X → Bool) (R : X → X → Ordering) (xs : List X) → list_any p (sorted_by R xs) ≡ list_any p xs
list_any-sorted_by p R [] = refl
list_any-sorted_by p R (x ∷ xs) = list_any-put p R x (sorted_by R xs) ∙ ap (λ b. p x || b) (list_any-sorted_by p R xs)

pub Pairs-filter : {X : Type 0} (S : X → X → Type 0) (p : X → Bool) (xs : List X) → Pairs S xs → Pairs S (filter p xs)
Pairs-filter S p [] h = tt
Pairs-filter S p (x ∷ xs) h =
    let P : List _ → Type 0 = Pairs S in
    elim (cases_Bool (p x)) [
      | inl keep ↦ subst P (sym (cond-true (p x) _ _ keep)) (All-filter p (S x) xs h.0, Pairs-filter S p xs h.1)
      | inr drop ↦ subst P (sym (cond-false (p x) _ _ drop)) (Pairs-filter S p xs h.1)
    ]

-- no later element is below an earlier one
abbrev pub IsInOrder : {X : Type 0} → (X → X → Ordering) → List X → Type 0
IsInOrder R = Pairs (λ x y. is_lt (R y x) ≡ false)

pub IsInOrder-put : {X : Type 0} {R : X → X → Ordering} (o : IsTotalOrder R) (x : X) (ys : List X) → IsInOrder R ys → IsInOrder R (put_in_order R x ys)
IsInOrder-put {R = R} o x [] h = (All-nil (λ y. is_lt (R y x) ≡ false), tt)
IsInOrder-put {R = R} o x (y ∷ ys) h =
    let P : List _ → Type 0 = IsInOrder R in
    elim (cases_Bool (is_lt (R x y))) [
      | inl low ↦ subst P (sym (put_low R x y ys low)) (All-cons (λ z. is_lt (R z x) ≡ false) y ys (not_after o x y low) (All-weaker (λ z. is_lt (R z y) ≡ false) (λ z. is_lt (R z x) ≡ false) (λ z hz. not_after o x z (below_then o x y z low hz)) ys h.0), h)
      | inr high ↦ subst P (sym (put_high R x y ys high)) (All-put (λ z. is_lt (R z y) ≡ false) R x ys high h.0, IsInOrder-put o x ys h.1)
    ]

pub IsInOrder-sorted_by : {X : Type 0} {R : X → X → Ordering} (o : IsTotalOrder R) (xs : List X) → IsInOrder R (sorted_by R xs)
IsInOrder-sorted_by o [] = tt
IsInOrder-sorted_by {R = R} o (x ∷ xs) = IsInOrder-put o x (sorted_by R xs) (IsInOrder-sorted_by o xs)

-- an element below all others comes first
pub put_first : {X : Type 0} (R : X → X → Ordering) (x : X) (ys : List X) → All (λ y. is_lt (R x y) ≡ true) ys → put_in_order R x ys ≡ x ∷ ys
put_first R x [] h = refl
put_first R x (y ∷ ys) h = put_low R x y ys (All-head (λ y. is_lt (R x y) ≡ true) y ys h)

-- a filter before or after an element is put in
pub filter-put_dropped : {X : Type 0} (p : X → Bool) (R : X → X → Ordering) (x : X) (ys : List X) → p x ≡ false → filter p (put_in_order R x ys) ≡ filter p ys
filter-put_dropped p R x [] h = cond-false (p x) _ _ h
filter-put_dropped p R x (y ∷ ys) h =
    elim (cases_Bool (is_lt (R x y))) [
      | inl low ↦ ap (filter p) (put_low R x y ys low) ∙ cond-false (p x) _ _ h
      | inr high ↦ ap (filter p) (put_high R x y ys high) ∙ ap (λ zs. cond (p y) (y ∷ zs) zs) (filter-put_dropped p R x ys h)
    ]

pub filter-put_kept : {X : Type 0} (p : X → Bool) {R : X → X → Ordering} (o : IsTotalOrder R) (x : X) (ys : List X) → p x ≡ true → IsInOrder R ys → filter p (put_in_order R x ys) ≡ put_in_order R x (filter p ys)
filter-put_kept p o x [] h up = cond-true (p x) _ _ h
filter-put_kept p {R = R} o x (y ∷ ys) h up =
    elim (cases_Bool (is_lt (R x y))) [
      | inl low ↦
          let all : All (λ z. is_lt (R x z) ≡ true) (y ∷ ys) = All-cons (λ z. is_lt (R x z) ≡ true) y ys low (All-weaker (λ z. is_lt (R z y) ≡ false) (λ z. is_lt (R x z) ≡ true) (λ z hz. below_then o x y z low hz) ys up.0) in
          ap (filter p) (put_low R x y ys low)
          ∙ cond-true (p x) _ _ h
          ∙ sym (put_first R x (filter p (y ∷ ys)) (All-filter p (λ z. is_lt (R x z) ≡ true) (y ∷ ys) all))
      | inr high ↦
          ap (filter p) (put_high R x y ys high)
          ∙ ap (λ zs. cond (p y) (y ∷ zs) zs) (filter-put_kept p o x ys h up.1)
          ∙ kept_or_not high (p y)
    ]
  where
    kept_or_not : is_lt (R x y) ≡ false → (b : Bool) → cond b (y ∷ put_in_order R x (filter p ys)) (put_in_order R x (filter p ys)) ≡ put_in_order R x (cond b (y ∷ filter p ys) (filter p ys))
    kept_or_not high true = sym (put_high R x y (filter p ys) high)
    kept_or_not high false = refl

pub filter-sorted_by : {X : Type 0} (p : X → Bool) {R : X → X → Ordering} (o : IsTotalOrder R) (xs : List X) → filter p (sorted_by R xs) ≡ sorted_by R (filter p xs)
filter-sorted_by p o [] = refl
filter-sorted_by p {R = R} o (x ∷ xs) =
    elim (cases_Bool (p x)) [
      | inl keep ↦ filter-put_kept p o x (sorted_by R xs) keep (IsInOrder-sorted_by o xs) ∙ ap (put_in_order R x) (filter-sorted_by p o xs) ∙ sym (ap (sorted_by R) (cond-true (p x) _ _ keep))
      | inr drop ↦ filter-put_dropped p R x (sorted_by R xs) drop ∙ filter-sorted_by p o xs ∙ sym (ap (sorted_by R) (cond-false (p x) _ _ drop))
    ]

-- two orders that agree on these elements put them alike
pub put_agree : {X : Type 0} (R S : X → X → Ordering) (x : X) (ys : List X) → All (λ y. R x y ≡ S x y) ys → put_in_order R x ys ≡ put_in_order S x ys
put_agree R S x [] h = refl
put_agree R S x (y ∷ ys) h =
    let here = All-head (λ y. R x y ≡ S x y) y ys h in
    let rest = put_agree R S x ys (All-tail (λ y. R x y ≡ S x y) y ys h) in
    ap (λ r. cond (is_lt r) (x ∷ y ∷ ys) (y ∷ put_in_order R x ys)) here ∙ ap (λ zs. cond (is_lt (S x y)) (x ∷ y ∷ ys) (y ∷ zs)) rest
