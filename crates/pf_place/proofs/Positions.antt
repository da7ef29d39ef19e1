-- Where the first element stands that passes a test.
use Rattle.std.proofs.Common.{◌≡◌, ℕ, ◌+◌, ◌-◌, ◌<◌, ◌≤◌, Bool, true, false, not, inl, inr, Some, None, List, length, get_or, take, drop, ap, sym, ◌∙◌, cond, ltb, arith}
use Rattle.std.specs.List.{position, position_or_len}
use Rattle.std.proofs.Math.Seq.{take-length}
use Rattle.std.proofs.lemmas.Bool.{cases_lt, lt-ltb, le-ltb}
use Rattle.std.proofs.lemmas.List.{get_or-drop, length-drop}
use Rattle.std.proofs.lemmas.List.Sums.{fails_before_first, passes_at_first, position_or_len_is, prefix_len-le-length}

module _ {X : Type 0} (p : X → Bool) where
  -- the position is the first index that passes, where there is one
  pub position_there : (xs : List X) → position_or_len p xs < length xs → Some (position_or_len p xs) ≡ position p xs
  position_there xs l =
      let yes : ltb (position_or_len p xs) (length xs) ≡ true = lt-ltb _ _ l in
      sym (ap (λ b. cond b (Some (position_or_len p xs)) None) yes)

  -- and none where there is none
  pub position_nowhere : (xs : List X) → length xs ≤ position_or_len p xs → None ≡ position p xs
  position_nowhere xs l =
      let no : ltb (position_or_len p xs) (length xs) ≡ false = le-ltb _ _ l in
      sym (ap (λ b. cond b (Some (position_or_len p xs)) None) no)

  -- the other way round
  pub is_position : (xs : List X) (k : ℕ) → Some k ≡ position p xs → (k ≡ position_or_len p xs) × (k < length xs)
  is_position xs k at =
      elim (cases_lt (position_or_len p xs) (length xs)) [
        | inl below ↦
            let found : Some k ≡ Some (position_or_len p xs) = at ∙ sym (position_there xs below) in
            let same : k ≡ position_or_len p xs = cc in
            (same, omega arith)
        | inr past ↦
            let none : Some k ≡ None = at ∙ sym (position_nowhere xs past) in
            cc
      ]

  pub is_nowhere : (xs : List X) → None ≡ position p xs → length xs ≤ position_or_len p xs
  is_nowhere xs at =
      elim (cases_lt (position_or_len p xs) (length xs)) [
        | inl below ↦
            let some : None ≡ Some (position_or_len p xs) = at ∙ sym (position_there xs below) in
            cc
        | inr past ↦ past
      ]

  -- the elements from the s-th on, as a slice has them
  abbrev pub rest : List X → ℕ → List X
  rest xs s = take (length xs - s) (drop s xs)

  rest_is_drop : (xs : List X) (s : ℕ) → rest xs s ≡ drop s xs
  rest_is_drop xs s = ap (λ n. take n (drop s xs)) (sym (length-drop s xs)) ∙ take-length (drop s xs)

  -- where nothing before the s-th passes, the search may begin there
  module _ (xs : List X) (s : ℕ) (d : X) (within : s ≤ length xs) (before : (k : ℕ) → k < s → p (get_or xs k d) ≡ false) where
    behind : position_or_len p xs ≡ s + position_or_len p (drop s xs)
    behind =
        let ys = drop s xs in
        position_or_len_is p xs (s + position_or_len p ys) d (omega (arith, prefix_len-le-length (λ x. not (p x)) ys, length-drop s xs))
        (λ k l. elim (cases_lt k s) [
          | inl below ↦ before k below
          | inr past ↦
              let at : get_or ys (k - s) d ≡ get_or xs k d = get_or-drop s xs (k - s) d ∙ ap (λ n. get_or xs n d) (omega arith) in
              rw (← at) (fails_before_first p ys (k - s) d (omega arith))
        ])
        (λ l. rw (← get_or-drop s xs (position_or_len p ys) d) (passes_at_first p ys d (omega (arith, length-drop s xs))))

    pub found_behind : (k : ℕ) → Some k ≡ position p (rest xs s) → (s + k ≡ position_or_len p xs) × (s + k < length xs)
    found_behind k at =
        let there = is_position (drop s xs) k (at ∙ ap (position p) (rest_is_drop xs s)) in
        (omega (arith, behind, there.0), omega (arith, there.1, length-drop s xs))

    pub missing_behind : None ≡ position p (rest xs s) → length xs ≡ position_or_len p xs
    missing_behind at =
        let nowhere = is_nowhere (drop s xs) (at ∙ ap (position p) (rest_is_drop xs s)) in
        omega (arith, behind, nowhere, length-drop s xs, prefix_len-le-length (λ x. not (p x)) xs)
