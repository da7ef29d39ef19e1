-- Lists with one element in the middle: what holds of each, and of every two.
use Rattle.std.proofs.Common.{Some, None, ◌≡◌, suc, Bool, true, false, List, [], ◌∷◌, ◌++◌, map, refl, ap, arith, inl, inr}
use Rattle.std.specs.List.{All, AllPairs, list_any, filter, find}
use Rattle.std.proofs.lemmas.List.Elements.{All-nil, All-cons, All-head, All-tail, All-append, filter-append}
use Rattle.std.proofs.lemmas.List.Kept.{AllPairs-cons}
use Rattle.std.proofs.lemmas.List.{map-append}
use Rattle.std.proofs.lemmas.List.Folds.{map_fixed}
use Rattle.std.proofs.lemmas.Bool.{or_parts, or_cases}
use Rattle.pf_lemmas.proofs.Filters.{filter_all}

-- what holds of each element of a list holds of each element of its parts
pub All_left : {X : Type 0} (P : X → Type 0) (xs ys : List X) → All P (xs ++ ys) → All P xs
All_left P [] ys h = All-nil P
All_left P (x ∷ xs) ys h = All-cons P x xs (All-head P x (xs ++ ys) h) (All_left P xs ys (All-tail P x (xs ++ ys) h))

pub All_right : {X : Type 0} (P : X → Type 0) (xs ys : List X) → All P (xs ++ ys) → All P ys
All_right P [] ys h = h
All_right P (x ∷ xs) ys h = All_right P xs ys (All-tail P x (xs ++ ys) h)

pub All_middle : {X : Type 0} (P : X → Type 0) (xs : List X) (y : X) (ys : List X) → All P (xs ++ ys) → P y → All P (xs ++ y ∷ ys)
All_middle P xs y ys h here =
    All-append P xs (y ∷ ys) (All_left P xs ys h) (All-cons P y ys here (All_right P xs ys h))

pub All_without : {X : Type 0} (P : X → Type 0) (xs : List X) (y : X) (ys : List X) → All P (xs ++ y ∷ ys) → All P (xs ++ ys)
All_without P xs y ys h =
    All-append P xs ys (All_left P xs (y ∷ ys) h) (All-tail P y ys (All_right P xs (y ∷ ys) h))

pub All_at : {X : Type 0} (P : X → Type 0) (xs : List X) (y : X) (ys : List X) → All P (xs ++ y ∷ ys) → P y
All_at P xs y ys h = All-head P y ys (All_right P xs (y ∷ ys) h)

-- R holds of each element and each later one, by recursion
abbrev pub Pairs : {X : Type 0} → (X → X → Type 0) → List X → Type 0
Pairs R [] = Unit {0}
Pairs R (x ∷ xs) = All (R x) xs × Pairs R xs

pub Pairs-from_all : {X : Type 0} (R : X → X → Type 0) (xs : List X) → AllPairs R xs → Pairs R xs
Pairs-from_all R [] h = tt
Pairs-from_all R (x ∷ xs) h =
    (λ k d low. h 0 (suc k) d (omega arith) (omega arith), Pairs-from_all R xs (λ i j d below low. h (suc i) (suc j) d (omega arith) (omega arith)))

pub AllPairs-from_pairs : {X : Type 0} (R : X → X → Type 0) (xs : List X) → Pairs R xs → AllPairs R xs
AllPairs-from_pairs R [] h = λ i j d below low. absurd (omega arith)
AllPairs-from_pairs R (x ∷ xs) h = AllPairs-cons R x xs h.0 (AllPairs-from_pairs R xs h.1)

pub Pairs_middle : {X : Type 0} (R : X → X → Type 0) (xs : List X) (y : X) (ys : List X) → Pairs R (xs ++ ys) → All (λ x. R x y) xs → All (R y) ys → Pairs R (xs ++ y ∷ ys)
Pairs_middle R [] y ys h before after = (after, h)
Pairs_middle R (x ∷ xs) y ys h before after = (
  All_middle (R x) xs y ys h.0 (All-head (λ x. R x y) x xs before),
  Pairs_middle R xs y ys h.1 (All-tail (λ x. R x y) x xs before) after,
)

pub Pairs_without : {X : Type 0} (R : X → X → Type 0) (xs : List X) (y : X) (ys : List X) → Pairs R (xs ++ y ∷ ys) → Pairs R (xs ++ ys)
Pairs_without R [] y ys h = h.1
Pairs_without R (x ∷ xs) y ys h = (All_without (R x) xs y ys h.0, Pairs_without R xs y ys h.1)

pub Pairs_before : {X : Type 0} (R : X → X → Type 0) (xs : List X) (y : X) (ys : List X) → Pairs R (xs ++ y ∷ ys) → All (λ x. R x y) xs
Pairs_before R [] y ys h = All-nil (λ x. R x y)
Pairs_before R (x ∷ xs) y ys h =
    All-cons (λ x. R x y) x xs (All_at (R x) xs y ys h.0) (Pairs_before R xs y ys h.1)

pub Pairs_after : {X : Type 0} (R : X → X → Type 0) (xs : List X) (y : X) (ys : List X) → Pairs R (xs ++ y ∷ ys) → All (R y) ys
Pairs_after R [] y ys h = h.0
Pairs_after R (x ∷ xs) y ys h = Pairs_after R xs y ys h.1

-- the one element in the middle that a filter drops, a map changes, or a search finds
pub filter_middle : {X : Type 0} (p : X → Bool) (xs : List X) (y : X) (ys : List X) → All (λ x. p x ≡ true) (xs ++ ys) → p y ≡ false → filter p (xs ++ y ∷ ys) ≡ xs ++ ys
filter_middle p xs y ys h fails =
    let left = filter_all p xs (All_left (λ x. p x ≡ true) xs ys h) in
    let right = filter_all p ys (All_right (λ x. p x ≡ true) xs ys h) in
    rw (filter-append, fails, left, right)

pub map_middle : {X : Type 0} (f : X → X) (xs : List X) (y : X) (ys : List X) → All (λ x. f x ≡ x) (xs ++ ys) → map f (xs ++ y ∷ ys) ≡ xs ++ f y ∷ ys
map_middle f xs y ys h =
    let left = map_fixed f xs (All_left (λ x. f x ≡ x) xs ys h) in
    let right = map_fixed f ys (All_right (λ x. f x ≡ x) xs ys h) in
    rw (map-append, left, right)

pub find_middle : {X : Type 0} (p : X → Bool) (xs : List X) (y : X) (ys : List X) → All (λ x. p x ≡ false) xs → p y ≡ true → find p (xs ++ y ∷ ys) ≡ Some y
find_middle p [] y ys h passes = rw passes
find_middle p (x ∷ xs) y ys h passes =
    let here = All-head (λ x. p x ≡ false) x xs h in
    rw here (find_middle p xs y ys (All-tail (λ x. p x ≡ false) x xs h) passes)

pub find_none : {X : Type 0} (p : X → Bool) (xs : List X) → list_any p xs ≡ false → find p xs ≡ None
find_none p [] h = refl
find_none p (x ∷ xs) h =
    let parts = or_parts (p x) (list_any p xs) h in
    let here : p x ≡ false = parts.0 in
    rw here (find_none p xs parts.1)

-- none of the elements passes a test
pub none_passes : {X : Type 0} (p : X → Bool) (xs : List X) → list_any p xs ≡ false → All (λ x. p x ≡ false) xs
none_passes p [] h = All-nil (λ x. p x ≡ false)
none_passes p (x ∷ xs) h =
    let parts = or_parts (p x) (list_any p xs) h in
    All-cons (λ x. p x ≡ false) x xs parts.0 (none_passes p xs parts.1)

-- the first element that passes a test, with what stands around it
pub record Found {X : Type 0} (p : X → Bool) (xs : List X) : Type 0 where
  pub front : List X
  pub at : X
  pub back : List X
  pub is : xs ≡ front ++ at ∷ back
  pub passes : p at ≡ true

pub found : {X : Type 0} (p : X → Bool) (xs : List X) → list_any p xs ≡ true → Found p xs
found p [] h = absurd (cc)
found p (x ∷ xs) h =
    elim (or_cases (p x) (list_any p xs) h) [
      | inl here ↦ record { front = []; at = x; back = xs; is = refl; passes = here }
      | inr later ↦ let rest = found p xs later in
          record { front = x ∷ rest.front; at = rest.at; back = rest.back; is = ap (λ zs. x ∷ zs) rest.is; passes = rest.passes }
    ]
