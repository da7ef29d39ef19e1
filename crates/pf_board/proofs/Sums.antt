-- Sums over lists, and what holds of each place of a list that changed.
use Rattle.std.proofs.Common.{◌≡◌, ◌≢◌, ℕ, zero, suc, ◌+◌, ◌<◌, ◌≤◌, ◌==◌, List, [], ◌∷◌, ◌++◌, length, set, refl, sym, ap, subst, ⊎_elim, arith, inl, inr, ◌⊎◌}
use Rattle.std.proofs.lemmas.Grind.{common_steps}
use Rattle.std.proofs.lemmas.Bool.Decides.{nat_tests}
use mathlib.Core.Option.{some, some-injective}
use lib.ListN.{get_elem?}
use Rattle.atomic_table.proofs.Lists.{at_set}
use Rattle.pf_board.specs.Kept.{one_below}
use Rattle.pf_board.specs.Quanta.{total, one_if}

module _ {A : Type 0} where
  -- what holds of each place, after one changed
  pub set_all : (F : ℕ → A → Type 0) (xs : List A) (k : ℕ) (w : A) → ((j : ℕ) (u : A) → j ≢ k → get_elem? xs j ≡ some u → F j u) → F k w → (j : ℕ) (u : A) → get_elem? (set xs k w) j ≡ some u → F j u
  set_all F xs k w others mine j u e =
      ⊎_elim
      (λ (x : (j ≡ k) × (w ≡ u)). subst (λ (y : ℕ × A). F y.0 y.1) (λ i. (sym x.0 i, x.1 i)) mine)
      (λ (x : (j ≢ k) × (get_elem? xs j ≡ some u)). others j u x.0 x.1)
      (at_set xs k j w u e)

  -- at a list with one more: what stood before, or the new one, at the end
  pub at_end : (xs : List A) (x u : A) (j : ℕ) → get_elem? (xs ++ x ∷ []) j ≡ some u → (get_elem? xs j ≡ some u) ⊎ ((j ≡ length xs) × (x ≡ u))
  at_end [] x u zero e = inr (refl, some-injective _ _ e)
  at_end [] x u (suc j) e = inl e
  at_end (y ∷ xs) x u zero e = inl e
  at_end (y ∷ xs) x u (suc j) e = ⊎_elim inl (λ (h : (j ≡ length xs) × (x ≡ u)). inr (ap suc h.0, h.1)) (at_end xs x u j e)

  -- what holds of each place and of a new one
  pub snoc_all : (F : ℕ → A → Type 0) (xs : List A) (w : A) → ((j : ℕ) (u : A) → get_elem? xs j ≡ some u → F j u) → F (length xs) w → (j : ℕ) (u : A) → get_elem? (xs ++ w ∷ []) j ≡ some u → F j u
  snoc_all F xs w others mine j u e =
      ⊎_elim
      (others j u)
      (λ (x : (j ≡ length xs) × (w ≡ u)). subst (λ (y : ℕ × A). F y.0 y.1) (λ i. (sym x.0 i, x.1 i)) mine)
      (at_end xs w u j e)

  -- the changed place holds what was put there
  pub set_at : (xs : List A) (k : ℕ) (v w : A) → get_elem? xs k ≡ some v → get_elem? (set xs k w) k ≡ some w
  set_at [] k v w e = absurd (cc)
  set_at (x ∷ xs) zero v w e = refl
  set_at (x ∷ xs) (suc k) v w e = set_at xs k v w e

  -- a place beside the changed one held before what it holds now
  pub before_set : (xs : List A) (id other : ℕ) (x w : A) → ¬ (other ≡ id) → get_elem? (set xs id x) other ≡ some w → get_elem? xs other ≡ some w
  before_set xs id other x w apart there =
      ⊎_elim
      (λ (t : (other ≡ id) × (x ≡ w)). absurd (apart t.0))
      (λ (t : (other ≢ id) × (get_elem? xs other ≡ some w)). t.1)
      (at_set xs id other x w there)

  pub total_set : (f : A → ℕ) (xs : List A) (k : ℕ) (v w : A) → get_elem? xs k ≡ some v → total f (set xs k w) + f v ≡ total f xs + f w
  total_set f [] k v w e = absurd (cc)
  total_set f (x ∷ xs) zero v w e = let same : x ≡ v = some-injective _ _ e in let g = ap f same in omega arith
  total_set f (x ∷ xs) (suc k) v w e = let t = total_set f xs k v w e in omega arith

  pub total_at : (f : A → ℕ) (xs : List A) (k : ℕ) (v : A) → get_elem? xs k ≡ some v → f v ≤ total f xs
  total_at f [] k v e = absurd (cc)
  total_at f (x ∷ xs) zero v e = let same : x ≡ v = some-injective _ _ e in let g = ap f same in omega arith
  total_at f (x ∷ xs) (suc k) v e = let t = total_at f xs k v e in omega arith

  pub total_two : (f : A → ℕ) (xs : List A) (i j : ℕ) (v u : A) → j ≢ i → get_elem? xs i ≡ some v → get_elem? xs j ≡ some u → f v + f u ≤ total f xs
  total_two f [] i j v u apart e d = absurd (cc)
  total_two f (x ∷ xs) zero zero v u apart e d = absurd (apart refl)
  total_two f (x ∷ xs) zero (suc j) v u apart e d = let same : x ≡ v = some-injective _ _ e in let g = ap f same in let t = total_at f xs j u d in omega arith
  total_two f (x ∷ xs) (suc i) zero v u apart e d = let same : x ≡ u = some-injective _ _ d in let g = ap f same in let t = total_at f xs i v e in omega arith
  total_two f (x ∷ xs) (suc i) (suc j) v u apart e d = let t = total_two f xs i j v u (λ s. apart (ap suc s)) e d in omega arith

  pub total-append : (f : A → ℕ) (xs ys : List A) → total f (xs ++ ys) ≡ total f xs + total f ys
  total-append f [] ys = omega arith
  total-append f (x ∷ xs) ys = let t = total-append f xs ys in omega arith

  pub total_snoc : (f : A → ℕ) (xs : List A) (w : A) → total f (xs ++ w ∷ []) ≡ total f xs + f w
  total_snoc f xs w = let t = total-append f xs (w ∷ []) in omega arith

pub below_of_one : (n m : ℕ) → 1 ≤ one_below n m → m < n
below_of_one n m one = grind (arith, common_steps, nat_tests)

pub not_below : (n m : ℕ) → one_below n m ≡ 0 → n ≤ m
not_below n m e = grind (arith, common_steps, nat_tests)

pub one_below_most : (n m : ℕ) → one_below n m ≤ 1
one_below_most n m = grind (arith, common_steps, nat_tests)

pub one_below_next : (n m : ℕ) → one_below (n + 1) m ≡ one_below n m + one_if (n == m)
one_below_next n m = grind (arith, common_steps, nat_tests)

pub one_as : (a b : ℕ) → a ≡ b → one_if (a == b) ≡ 1
one_as a b e = grind (arith, common_steps, nat_tests)

pub none_below : (m : ℕ) → one_below 0 m ≡ 0
none_below m = grind (arith, common_steps, nat_tests)
