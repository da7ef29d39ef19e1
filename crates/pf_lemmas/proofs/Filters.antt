-- What tests keep of lists, and what is made of what they keep.
use Rattle.std.proofs.Common.{◌≡◌, zero, suc, Bool, true, false, if◌then◌else◌, Option, None, Some, List, [], ◌∷◌, map, filter, filter_map, All, Contains, refl, sym, ap, ◌∙◌, subst, arith}
use Rattle.std.specs.List.{cons_option}
use Rattle.std.proofs.lemmas.List.Elements.{All-head, All-tail}

-- a filter that keeps each element
pub filter_all : {X : Type 0} (p : X → Bool) (xs : List X) → All (λ x. p x ≡ true) xs → filter p xs ≡ xs
filter_all p [] h = refl
filter_all p (x ∷ xs) h =
    let here = All-head (λ x. p x ≡ true) x xs h in
    let rest = filter_all p xs (All-tail (λ x. p x ≡ true) x xs h) in
    rw here (ap (λ zs. x ∷ zs) rest)

-- two tests that agree at these elements keep the same of them
pub filter_same : {X : Type 0} (p q : X → Bool) (xs : List X) → All (λ x. p x ≡ q x) xs → filter p xs ≡ filter q xs
filter_same p q [] h = refl
filter_same p q (x ∷ xs) h =
    let here = All-head (λ x. p x ≡ q x) x xs h in
    rw here (ap (λ zs. if q x then x ∷ zs else zs) (filter_same p q xs (All-tail (λ x. p x ≡ q x) x xs h)))

swap_by : {X : Type 0} (p q : X → Bool) (x : X) (xs : List X) (a b : Bool) → p x ≡ a → q x ≡ b → filter p (filter q xs) ≡ filter q (filter p xs)
    → filter p (filter q (x ∷ xs)) ≡ filter q (filter p (x ∷ xs))
swap_by p q x xs true true hp hq rest = simp (hp, hq) (ap (λ ys. x ∷ ys) rest)
swap_by p q x xs true false hp hq rest = simp (hp, hq) rest
swap_by p q x xs false true hp hq rest = simp (hp, hq) rest
swap_by p q x xs false false hp hq rest = simp (hp, hq) rest

pub filters_swap : {X : Type 0} (p q : X → Bool) (xs : List X) → filter p (filter q xs) ≡ filter q (filter p xs)
filters_swap p q [] = refl
filters_swap p q (x ∷ xs) = swap_by p q x xs (p x) (q x) refl refl (filters_swap p q xs)

pub filter_map_map : {A B C : Type 0} (h : B → Option C) (f : A → B) (xs : List A) →
    filter_map h (map f xs) ≡ filter_map (λ x. h (f x)) xs
filter_map_map h f [] = refl
filter_map_map h f (x ∷ xs) = ap (cons_option (h (f x))) (filter_map_map h f xs)

-- what an element gives is among what all give
pub to_filter_map : {X Y : Type 0} (h : X → Option Y) (xs : List X) (x : X) (y : Y) → Contains xs x → h x ≡ Some y →
    Contains (filter_map h xs) y
to_filter_map h [] x y at gives = absurd (omega (arith, at.1))
to_filter_map h (z ∷ zs) x y (zero, within, same) gives =
    subst (λ o. Contains (cons_option o (filter_map h zs)) y) (sym (ap h same ∙ gives)) (0, omega arith, refl)
to_filter_map {Y = Y} h (z ∷ zs) x y (suc i, within, is) gives = grown (h z) (to_filter_map h zs x y (i, omega arith, is) gives)
  where
    grown : (o : Option Y) → Contains (filter_map h zs) y → Contains (cons_option o (filter_map h zs)) y
    grown None at = at
    grown (Some w) at = (suc at.0, omega (arith, at.1), at.2)
