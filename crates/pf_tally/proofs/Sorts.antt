-- A list that is sorted by an order is the one that insertion gives, where no two elements tie.
use Rattle.std.proofs.Common.{◌≡◌, ◌≢◌, ℕ, suc, ◌<◌, ◌≤◌, true, false, cond, List, [], ◌∷◌, length, get_or, count_by, AllPairs, All, IsPermutation, ⊎_elim, refl, sym, ap, ◌∙◌, arith}
use Rattle.std.specs.Cmp.{IsTotalOrder}
use Rattle.std.specs.declared.cmp.Ordering.{Ordering}
use Rattle.std.specs.declared.cmp.Ordering.TheVariants.{Less, Equal, Greater}
use Rattle.std.specs.Ordering.{is_lt, is_eq}
use Rattle.std.specs.List.Sorted.{IsSortedBy}
use Rattle.std.proofs.lemmas.Cmp.{tied_itself, tied_back, alike_right}
use Rattle.std.proofs.lemmas.Bool.{true≢false, cases_Bool, cond-true, cond-false}
use Rattle.std.proofs.lemmas.List.Kept.{AllPairs-cons}
use Rattle.std.proofs.lemmas.List.Sums.{sum_by-cons, get_or-le-sum_by}
use Rattle.std.proofs.lemmas.List.Sorted.{IsPermutation-sym, IsPermutation-trans, Contains-permutation, sum_by-IsPermutation, ranks_by, sorted_far}
use Rattle.pf_lemmas.proofs.Orders.{is_equal}
use Rattle.pf_scenario.specs.Sorted.{sorted_by}
use Rattle.pf_scenario.proofs.Lists.{AllPairs-from_pairs}
use Rattle.pf_scenario.proofs.Sorting.{after, not_after, sorted_keeps, IsInOrder-sorted_by}
use Rattle.pf_run.proofs.Containing.{pairs_tail, one_in_order}

eq_is : (r : Ordering) → r ≡ Equal → is_eq r ≡ true
eq_is r e = ap is_eq e

not_eq : (r : Ordering) → r ≢ Equal → is_eq r ≡ false
not_eq Less e = refl
not_eq Equal e = absurd (e refl)
not_eq Greater e = refl

module _ {X : Type 0} {R : X → X → Ordering} (o : IsTotalOrder R) where
  -- no two of these tie
  abbrev pub NoTies : List X → Type 0
  NoTies xs = AllPairs (λ x y. R x y ≢ Equal) xs

  abbrev tie : X → X → ℕ
  tie x y = cond (is_eq (R x y)) 1 0

  tie_one : (x y : X) → R x y ≡ Equal → tie x y ≡ 1
  tie_one x y e = cond-true (is_eq (R x y)) 1 0 (eq_is (R x y) e)

  tie_none : (x y : X) → R x y ≢ Equal → tie x y ≡ 0
  tie_none x y e = cond-false (is_eq (R x y)) 1 0 (not_eq (R x y) e)

  ties_none : (x : X) (xs : List X) → All (λ y. R x y ≢ Equal) xs → count_by (λ y. is_eq (R x y)) xs ≡ 0
  ties_none x [] differ = refl
  ties_none x (y ∷ ys) differ =
      let here : R x y ≢ Equal = differ 0 y (omega arith) in
      omega (arith, sum_by-cons (tie x) y ys, tie_none x y here, ties_none x ys (λ k d within. differ (suc k) d (omega arith)))

  few_ties : (x : X) (xs : List X) → NoTies xs → count_by (λ y. is_eq (R x y)) xs ≤ 1
  few_ties x [] differ = omega arith
  few_ties x (y ∷ ys) differ = ⊎_elim
      (λ same.
      let e : R x y ≡ Equal = is_equal (R x y) same in
      let none : All (λ z. R x z ≢ Equal) ys = λ k d within is. differ 0 (suc k) d (omega arith) (omega arith)
      (let z = get_or ys k d in tied_back o z y (sym (alike_right o x y z e) ∙ tied_back o x z is)) in
      omega (arith, sum_by-cons (tie x) y ys, tie_one x y e, ties_none x ys none))
      (λ apart.
      let none : tie x y ≡ 0 = cond-false (is_eq (R x y)) 1 0 apart in
      omega (arith, sum_by-cons (tie x) y ys, few_ties x ys (pairs_tail (λ x y. R x y ≢ Equal) y ys differ)))
      (cases_Bool (is_eq (R x y)))

  no_ties_from_few : (xs : List X) → ((x : X) → count_by (λ y. is_eq (R x y)) xs ≤ 1) → NoTies xs
  no_ties_from_few [] few = λ i j d before within. absurd (omega arith)
  no_ties_from_few (x ∷ xs) few =
      AllPairs-cons (λ x y. R x y ≢ Equal) x xs
      (λ k d within is. omega (
        arith,
        few x,
        sum_by-cons (tie x) x xs,
        tie_one x x (tied_itself o x),
        get_or-le-sum_by (tie x) xs k d within,
        tie_one x (get_or xs k d) is,
      ))
      (no_ties_from_few xs (λ y. omega (arith, few y, sum_by-cons (tie y) x xs)))

  pub no_ties_permuted : (xs ys : List X) → IsPermutation xs ys → NoTies xs → NoTies ys
  no_ties_permuted xs ys same differ =
      no_ties_from_few ys (λ x. let count = sum_by-IsPermutation (tie x) xs ys same in omega (arith, few_ties x xs differ, count))

  abbrev pub Below : X → X → Type 0
  Below x y = is_lt (R x y) ≡ true

  below_apart : (x y : X) → Below x y → Below y x → ⊥
  below_apart x y first back = true≢false (sym back ∙ not_after o x y first)

  tied_not : (x y : X) → R x y ≢ Equal → R y x ≢ Equal
  tied_not x y differ e = differ (tied_back o y x e)

  rises : (xs : List X) → NoTies xs → ((i j : ℕ) (d : X) → i < j → j < length xs → is_lt (R (get_or xs j d) (get_or xs i d)) ≡ false) → AllPairs Below xs
  rises xs differ up i j d before within = after o (get_or xs j d) (get_or xs i d) (tied_not _ _ (differ i j d before within)) (up i j d before within)

  pub sorted_rises : (xs : List X) → NoTies xs → AllPairs Below (sorted_by R xs)
  sorted_rises xs differ =
      rises (sorted_by R xs) (no_ties_permuted xs (sorted_by R xs) (sorted_keeps R xs) differ)
      (AllPairs-from_pairs (λ x y. is_lt (R y x) ≡ false) (sorted_by R xs) (IsInOrder-sorted_by o xs))

  -- Use: what a sort left is what insertion gives.
  pub one_sorted : (xs ys : List X) → NoTies xs → IsPermutation xs ys → IsSortedBy (λ x y. is_lt (R x y)) ys → ys ≡ sorted_by R xs
  one_sorted xs ys differ same up =
      let both = IsPermutation-trans ys xs (sorted_by R xs) (IsPermutation-sym xs ys same) (sorted_keeps R xs) in
      one_in_order Below below_apart ys (sorted_by R xs)
      (rises ys (no_ties_permuted xs ys same differ)
      (λ i j d before within. sorted_far (λ x y. is_lt (R x y)) (ranks_by o (λ (x : X). x)) ys up i j d (omega arith) within))
      (sorted_rises xs differ)
      (λ k at. Contains-permutation ys (sorted_by R xs) k both at)
      (λ k at. Contains-permutation (sorted_by R xs) ys k (IsPermutation-sym ys (sorted_by R xs) both) at)
