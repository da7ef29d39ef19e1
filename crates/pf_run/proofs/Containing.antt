-- What lists contain, and what holds of their pairs; lists in a strict order.
use Rattle.std.proofs.Common.{◌≡◌, ℕ, zero, suc, ◌<◌, ◌⊎◌, Bool, true, false, cond, List, [], ◌∷◌, ◌++◌, length, get_or, filter, filter_map, Option, Some, None, All, AllPairs, Contains, inl, inr, ⊎_elim, refl, sym, ap, ap₂, ◌∙◌, subst, subst₂, arith}
use Rattle.std.specs.List.{cons_option}
use Rattle.std.proofs.lemmas.Bool.{true≢false, cases_order}
use Rattle.std.proofs.lemmas.List.{get_or_default}
use Rattle.std.proofs.lemmas.List.Elements.{Contains-get_or, All-cons, All-head, All-tail, All-append, All-nil}
use Rattle.std.proofs.lemmas.List.Kept.{AllPairs-cons}

module _ {X : Type 0} where
  pub contains_none : (k : X) → Contains [] k → ⊥
  contains_none k at = absurd (omega (arith, at.1))

  pub contains_head : (x : X) (xs : List X) → Contains (x ∷ xs) x
  contains_head x xs = (0, omega arith, refl)

  pub contains_tail : (x : X) (xs : List X) (k : X) → Contains xs k → Contains (x ∷ xs) k
  contains_tail x xs k at = (suc at.0, omega (arith, at.1), at.2)

  at_place : (x : X) (xs : List X) (k : X) (i : ℕ) → i < length (x ∷ xs) → get_or (x ∷ xs) i k ≡ k → (x ≡ k) ⊎ Contains xs k
  at_place x xs k zero within is = inl is
  at_place x xs k (suc i) within is = inr (i, omega arith, is)

  pub contains_cases : (x : X) (xs : List X) (k : X) → Contains (x ∷ xs) k → (x ≡ k) ⊎ Contains xs k
  contains_cases x xs k at = at_place x xs k at.0 at.1 at.2

  -- of a list that a test kept
  contains_kept : (b : Bool) (x : X) (xs : List X) (k : X) → Contains (cond b (x ∷ xs) xs) k → ((x ≡ k) × (b ≡ true)) ⊎ Contains xs k
  contains_kept true x xs k at = ⊎_elim (λ e. inl (e, refl)) (λ later. inr later) (contains_cases x xs k at)
  contains_kept false x xs k at = inr at

  kept_head : (b : Bool) (x : X) (xs : List X) → b ≡ true → Contains (cond b (x ∷ xs) xs) x
  kept_head true x xs passes = contains_head x xs
  kept_head false x xs passes = absurd (true≢false (sym passes))

  kept_tail : (b : Bool) (x : X) (xs : List X) (k : X) → Contains xs k → Contains (cond b (x ∷ xs) xs) k
  kept_tail true x xs k at = contains_tail x xs k at
  kept_tail false x xs k at = at

  pub from_filter : (p : X → Bool) (xs : List X) (k : X) → Contains (filter p xs) k → Contains xs k × (p k ≡ true)
  from_filter p [] k at = absurd (contains_none k at)
  from_filter p (x ∷ xs) k at = ⊎_elim
      (λ here. (subst (Contains (x ∷ xs)) here.0 (contains_head x xs), ap p (sym here.0) ∙ here.1))
      (λ later. let rest = from_filter p xs k later in (contains_tail x xs k rest.0, rest.1))
      (contains_kept (p x) x (filter p xs) k at)

  pub in_filter : (p : X → Bool) (xs : List X) (k : X) → Contains xs k → p k ≡ true → Contains (filter p xs) k
  in_filter p [] k at passes = absurd (contains_none k at)
  in_filter p (x ∷ xs) k at passes = ⊎_elim
      (λ e. subst (Contains (filter p (x ∷ xs))) e (kept_head (p x) x (filter p xs) (ap p e ∙ passes)))
      (λ later. kept_tail (p x) x (filter p xs) k (in_filter p xs k later passes))
      (contains_cases x xs k at)

module _ {X : Type 0} (R : X → X → Type 0) where
  pub pairs_head : (x : X) (xs : List X) (k : X) → AllPairs R (x ∷ xs) → Contains xs k → R x k
  pairs_head x xs k pairs at = subst (R x) at.2 (pairs 0 (suc at.0) k (omega arith) (omega (arith, at.1)))

  pub pairs_tail : (x : X) (xs : List X) → AllPairs R (x ∷ xs) → AllPairs R xs
  pairs_tail x xs pairs i j d before within = pairs (suc i) (suc j) d (omega arith) (omega arith)

  pub pairs_append : (xs ys : List X) → AllPairs R xs → AllPairs R ys →
      ((x y : X) → Contains xs x → Contains ys y → R x y) → AllPairs R (xs ++ ys)
  pairs_append [] ys left right across = right
  pairs_append (x ∷ xs) ys left right across =
      AllPairs-cons R x (xs ++ ys)
      (All-append (R x) xs ys (λ k d within. left 0 (suc k) d (omega arith) (omega arith))
      (λ k d within. across x (get_or ys k d) (contains_head x xs) (Contains-get_or ys k d within)))
      (pairs_append xs ys (pairs_tail x xs left) right (λ y z at_y at_z. across y z (contains_tail x xs y at_y) at_z))

  -- two elements are one, or R holds of them in one order or the other
  pub pairs_cases : (xs : List X) (x y : X) → AllPairs R xs → Contains xs x → Contains xs y → (x ≡ y) ⊎ (R x y ⊎ R y x)
  pairs_cases xs x y pairs at_x at_y =
      let in_x : at_x.0 < length xs = at_x.1 in
      let in_y : at_y.0 < length xs = at_y.1 in
      let is_y : get_or xs at_y.0 x ≡ y = get_or_default xs at_y.0 x y in_y ∙ at_y.2 in
      ⊎_elim
      (λ e. inl (sym at_x.2 ∙ ap (λ i. get_or xs i x) e ∙ is_y))
      (λ apart. inr (⊎_elim
      (λ lower. inl (subst₂ R at_x.2 is_y (pairs at_x.0 at_y.0 x lower in_y)))
      (λ higher. inr (subst₂ R is_y at_x.2 (pairs at_y.0 at_x.0 x higher in_x)))
      apart))
      (cases_order at_x.0 at_y.0)

-- two lists in a strict order with the same elements are one list
module _ {X : Type 0} (B : X → X → Type 0) (not_both : (x y : X) → B x y → B y x → ⊥) where
  not_itself : (x y : X) → B x y → x ≡ y → ⊥
  not_itself x y first same = not_both x y first (subst₂ B same (sym same) first)

  rest_within : (x y : X) (xs ys : List X) → AllPairs B (x ∷ xs) → x ≡ y →
      ((k : X) → Contains (x ∷ xs) k → Contains (y ∷ ys) k) → (k : X) → Contains xs k → Contains ys k
  rest_within x y xs ys rising same within k at = ⊎_elim
      (λ e. absurd (not_itself x k (pairs_head B x xs k rising at) (same ∙ e)))
      (λ later. later)
      (contains_cases y ys k (within k (contains_tail x xs k at)))

  heads_same : (x y : X) (xs ys : List X) → AllPairs B (x ∷ xs) → AllPairs B (y ∷ ys) →
      ((k : X) → Contains (x ∷ xs) k → Contains (y ∷ ys) k) → ((k : X) → Contains (y ∷ ys) k → Contains (x ∷ xs) k) → x ≡ y
  heads_same x y xs ys first second within back = ⊎_elim
      (λ e. sym e)
      (λ x_later. ⊎_elim
      (λ e. e)
      (λ y_later. absurd (not_both x y (pairs_head B x xs y first y_later) (pairs_head B y ys x second x_later)))
      (contains_cases x xs y (back y (contains_head y ys))))
      (contains_cases y ys x (within x (contains_head x xs)))

  pub one_in_order : (a b : List X) → AllPairs B a → AllPairs B b →
      ((k : X) → Contains a k → Contains b k) → ((k : X) → Contains b k → Contains a k) → a ≡ b
  one_in_order [] [] first second within back = refl
  one_in_order [] (y ∷ ys) first second within back = absurd (contains_none y (back y (contains_head y ys)))
  one_in_order (x ∷ xs) [] first second within back = absurd (contains_none x (within x (contains_head x xs)))
  one_in_order (x ∷ xs) (y ∷ ys) first second within back =
      let same = heads_same x y xs ys first second within back in
      ap₂ (λ z zs. z ∷ zs) same
      (one_in_order xs ys (pairs_tail B x xs first) (pairs_tail B y ys second)
      (rest_within x y xs ys first same within) (rest_within y x ys xs second (sym same) back))

-- of what a function gives of some elements
module _ {X Y : Type 0} (R : X → X → Type 0) (S : Y → Y → Type 0) (h : X → Option Y)
    (carry : (x y : X) (a b : Y) → h x ≡ Some a → h y ≡ Some b → R x y → S a b) where
  all_given : (x : X) (a : Y) → h x ≡ Some a → (y : X) (o : Option Y) → h y ≡ o → R x y → (ys : List Y) → All (S a) ys →
      All (S a) (cons_option o ys)
  all_given x a is_a y None is_o r ys rest = rest
  all_given x a is_a y (Some b) is_o r ys rest = All-cons (S a) b ys (carry x y a b is_a is_o r) rest

  all_filter_map : (x : X) (a : Y) → h x ≡ Some a → (xs : List X) → All (R x) xs → All (S a) (filter_map h xs)
  all_filter_map x a is_a [] all = All-nil (S a)
  all_filter_map x a is_a (y ∷ ys) all =
      all_given x a is_a y (h y) refl (All-head (R x) y ys all) (filter_map h ys) (all_filter_map x a is_a ys (All-tail (R x) y ys all))

  pairs_given : (x : X) (xs : List X) (o : Option Y) → h x ≡ o → All (R x) xs → AllPairs S (filter_map h xs) →
      AllPairs S (cons_option o (filter_map h xs))
  pairs_given x xs None is_o all rest = rest
  pairs_given x xs (Some a) is_o all rest = AllPairs-cons S a (filter_map h xs) (all_filter_map x a is_o xs all) rest

  pub pairs_filter_map : (xs : List X) → AllPairs R xs → AllPairs S (filter_map h xs)
  pairs_filter_map [] pairs = λ i j d before within. absurd (omega arith)
  pairs_filter_map (x ∷ xs) pairs =
      pairs_given x xs (h x) refl (λ k d within. pairs 0 (suc k) d (omega arith) (omega arith))
      (pairs_filter_map xs (pairs_tail R x xs pairs))
