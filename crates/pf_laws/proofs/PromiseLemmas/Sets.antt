-- Numbers that differ, among others: they sum to no more.
use Rattle.std.proofs.Common.{◌≡◌, ◌≢◌, ℕ, suc, ◌+◌, ◌≤◌, ◌==◌, Bool, true, false, not, cond, List, [], ◌∷◌, map, filter, sum_by, AllPairs, arith, refl, ap, sym, ◌∙◌, subst, ⊎_elim}
use Rattle.std.specs.List.{list_any}
use Rattle.std.proofs.lemmas.Bool.{or_cases, or_left, or_right, eqb-true, eq-eqb, both_ways, false≢true}
use Rattle.std.proofs.lemmas.List.Sums.{sum_by-cons}
use Rattle.std.proofs.lemmas.List.{get_or_default}
use Rattle.pf_run.proofs.Containing.{pairs_tail}
use Rattle.pf_tally.proofs.Contents.{list_any-contains, list_any-map}

-- the number is among these
abbrev pub is_among : List ℕ → ℕ → Bool
is_among xs t = list_any (λ u. t == u) xs

pub DifferAll : List ℕ → Type 0
DifferAll [] = Unit {0}
DifferAll (x ∷ xs) = (is_among xs x ≡ false) × DifferAll xs

abbrev pub others_than : ℕ → List ℕ → List ℕ
others_than x ys = filter (λ y. not (x == y)) ys

others_fewer : (f : ℕ → ℕ) (x : ℕ) (ys : List ℕ) → sum_by f (others_than x ys) ≤ sum_by f ys
others_fewer f x [] = omega arith
others_fewer f x (y ∷ ys) = omega (arith, sum_by-cons f y ys, kept (x == y), others_fewer f x ys) where
  kept : (b : Bool) → sum_by f (cond (not b) (y ∷ others_than x ys) (others_than x ys)) ≤ f y + sum_by f (others_than x ys)
  kept true = omega arith
  kept false = omega (arith, sum_by-cons f y (others_than x ys))

others_and : (f : ℕ → ℕ) (x : ℕ) (ys : List ℕ) → is_among ys x ≡ true → sum_by f (others_than x ys) + f x ≤ sum_by f ys
others_and f x [] h = absurd (false≢true h)
others_and f x (y ∷ ys) h = by (x == y) refl (λ later. others_and f x ys later) where
  by : (b : Bool) → (x == y) ≡ b → (is_among ys x ≡ true → sum_by f (others_than x ys) + f x ≤ sum_by f ys) →
      sum_by f (cond (not b) (y ∷ others_than x ys) (others_than x ys)) + f x ≤ sum_by f (y ∷ ys)
  by true same rest = omega (arith, sum_by-cons f y ys, others_fewer f x ys, ap f (eqb-true x y same))
  by false differ rest =
      let later : is_among ys x ≡ true =
      ⊎_elim (λ same. absurd (both_ways (x == y) differ same)) (λ k. k) (or_cases (x == y) (is_among ys x) h) in
      omega (arith, sum_by-cons f y ys, sum_by-cons f y (others_than x ys), rest later)

others_among : (x t : ℕ) (ys : List ℕ) → t ≢ x → is_among ys t ≡ true → is_among (others_than x ys) t ≡ true
others_among x t [] differ h = h
others_among x t (y ∷ ys) differ h = by (x == y) refl (λ later. others_among x t ys differ later) where
  by : (b : Bool) → (x == y) ≡ b → (is_among ys t ≡ true → is_among (others_than x ys) t ≡ true) →
      is_among (cond (not b) (y ∷ others_than x ys) (others_than x ys)) t ≡ true
  by true same rest =
      rest (⊎_elim (λ here. absurd (differ (eqb-true t y here ∙ sym (eqb-true x y same)))) (λ k. k) (or_cases (t == y) (is_among ys t) h))
  by false apart rest = ⊎_elim
      (λ here. or_left (t == y) (is_among (others_than x ys) t) here)
      (λ later. or_right (t == y) (is_among (others_than x ys) t) (rest later))
      (or_cases (t == y) (is_among ys t) h)

-- numbers that differ, each among these others, sum to no more than these
pub sum_by-among : (f : ℕ → ℕ) (xs ys : List ℕ) → DifferAll xs → ((t : ℕ) → is_among xs t ≡ true → is_among ys t ≡ true) →
    sum_by f xs ≤ sum_by f ys
unfolding DifferAll
sum_by-among f [] ys differ within = omega arith
sum_by-among f (x ∷ xs) ys differ within =
    let here : is_among ys x ≡ true = within x (or_left (x == x) (is_among xs x) (eq-eqb x x refl)) in
    let rest =
    sum_by-among f xs (others_than x ys) differ.1
    (λ t h. others_among x t ys
    (λ same. both_ways (is_among xs x) differ.0 (subst (λ u. is_among xs u ≡ true) same h))
    (within t (or_right (t == x) (is_among xs t) h))) in
    omega (arith, sum_by-cons f x xs, others_and f x ys here, rest)

-- by a test in the sum, or on the list
pub sum_by-filter : (p : ℕ → Bool) (f : ℕ → ℕ) (xs : List ℕ) →
    sum_by (λ x. cond (p x) (f x) 0) xs ≡ sum_by f (filter p xs)
sum_by-filter p f [] = refl
sum_by-filter p f (x ∷ xs) = omega (arith, sum_by-cons (λ y. cond (p y) (f y) 0) x xs, sum_by-filter p f xs, kept (p x)) where
  kept : (b : Bool) → cond b (f x) 0 + sum_by f (filter p xs) ≡ sum_by f (cond b (x ∷ filter p xs) (filter p xs))
  kept true = omega (arith, sum_by-cons f x (filter p xs))
  kept false = omega arith

pub filter_among : (p : ℕ → Bool) (t : ℕ) (xs : List ℕ) → is_among xs t ≡ true → p t ≡ true → is_among (filter p xs) t ≡ true
filter_among p t [] h passes = h
filter_among p t (x ∷ xs) h passes = by (p x) refl (λ later. filter_among p t xs later passes) where
  by : (b : Bool) → p x ≡ b → (is_among xs t ≡ true → is_among (filter p xs) t ≡ true) →
      is_among (cond b (x ∷ filter p xs) (filter p xs)) t ≡ true
  by true is rest = ⊎_elim (λ here. or_left (t == x) (is_among (filter p xs) t) here)
      (λ later. or_right (t == x) (is_among (filter p xs) t) (rest later)) (or_cases (t == x) (is_among xs t) h)
  by false is rest = ⊎_elim
      (λ here. absurd (both_ways (p x) is (subst (λ y. p y ≡ true) (eqb-true t x here) passes)))
      rest (or_cases (t == x) (is_among xs t) h)

pub among_filter : (p : ℕ → Bool) (t : ℕ) (xs : List ℕ) → is_among (filter p xs) t ≡ true →
    (is_among xs t ≡ true) × (p t ≡ true)
among_filter p t [] h = absurd (false≢true h)
among_filter p t (x ∷ xs) h = by (p x) refl h (λ later. among_filter p t xs later) where
  by : (b : Bool) → p x ≡ b → is_among (cond b (x ∷ filter p xs) (filter p xs)) t ≡ true →
      (is_among (filter p xs) t ≡ true → (is_among xs t ≡ true) × (p t ≡ true)) →
      (is_among (x ∷ xs) t ≡ true) × (p t ≡ true)
  by true is h rest = ⊎_elim
      (λ here. (or_left (t == x) (is_among xs t) here, subst (λ y. p y ≡ true) (sym (eqb-true t x here)) is))
      (λ later. let both = rest later in (or_right (t == x) (is_among xs t) both.0, both.1))
      (or_cases (t == x) (is_among (filter p xs) t) h)
  by false is h rest = let both = rest h in (or_right (t == x) (is_among xs t) both.0, both.1)

pub filter_differ : (p : ℕ → Bool) (xs : List ℕ) → DifferAll xs → DifferAll (filter p xs)
unfolding DifferAll
filter_differ p [] differ = tt
filter_differ p (x ∷ xs) differ = by (p x) (filter_differ p xs differ.1) where
  by : (b : Bool) → DifferAll (filter p xs) → DifferAll (cond b (x ∷ filter p xs) (filter p xs))
  by true rest = (new (is_among (filter p xs) x) refl, rest) where
    new : (b : Bool) → is_among (filter p xs) x ≡ b → is_among (filter p xs) x ≡ false
    new true among = absurd (both_ways (is_among xs x) differ.0 (among_filter p x xs among).0)
    new false not_among = not_among
  by false rest = rest

module _ {X : Type 0} where
  -- elements of which no two have one number
  pub differ_from_pairs : (f : X → ℕ) (xs : List X) → AllPairs (λ a b. f a ≢ f b) xs → DifferAll (map f xs)
  unfolding DifferAll
  differ_from_pairs f [] pairs = tt
  differ_from_pairs f (x ∷ xs) pairs =
      (new (is_among (map f xs) (f x)) refl, differ_from_pairs f xs (pairs_tail (λ a b. f a ≢ f b) x xs pairs)) where
        new : (b : Bool) → is_among (map f xs) (f x) ≡ b → is_among (map f xs) (f x) ≡ false
        new false none = none
        new true some =
            let it = list_any-contains (λ y. f x == f y) xs (sym (list_any-map (λ u. f x == u) f xs) ∙ some) in
            absurd (pairs 0 (suc it.1.0) x (omega arith) (omega (arith, it.1.1))
            (eqb-true (f x) (f it.0) it.2 ∙ ap f (sym it.1.2 ∙ get_or_default xs it.1.0 it.0 x it.1.1)))
