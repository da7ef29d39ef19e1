-- A list in groups: where the k-th item stands, and which groups hold its first items.
use Rattle.std.proofs.Common.{◌≡◌, Some, None, ℕ, zero, suc, ◌+◌, ◌-◌, ◌*◌, ◌<◌, ◌≤◌, List, [], ◌∷◌, ◌++◌, length, take, ap, ap₂, sym, ◌∙◌, refl, arith, append_assoc, length-append}
use Rattle.std.specs.List.{All, slice_get, flat_map}
use Rattle.std.proofs.Math.Seq.{take-append-add}
use Rattle.std.proofs.lemmas.List.Elements.{All-head, All-tail}
use Rattle.pf_collections.specs.List.Grouping.{grouped}

module _ {X : Type 0} where
  pub slice_get-take : (n : ℕ) (xs : List X) (k : ℕ) → k < n → slice_get (take n xs) k ≡ slice_get xs k
  slice_get-take zero xs k l = absurd (omega arith)
  slice_get-take (suc n) [] k l = refl
  slice_get-take (suc n) (x ∷ xs) zero l = refl
  slice_get-take (suc n) (x ∷ xs) (suc k) l = slice_get-take n xs k (omega arith)

  slice_get-append_left : (xs ys : List X) (k : ℕ) → k < length xs → slice_get (xs ++ ys) k ≡ slice_get xs k
  slice_get-append_left [] ys k l = absurd (omega arith)
  slice_get-append_left (x ∷ xs) ys zero l = refl
  slice_get-append_left (x ∷ xs) ys (suc k) l = slice_get-append_left xs ys k (omega arith)

  slice_get-append_right : (xs ys : List X) (k : ℕ) → length xs ≤ k → slice_get (xs ++ ys) k ≡ slice_get ys (k - length xs)
  slice_get-append_right [] ys k l = ap (slice_get ys) (omega arith)
  slice_get-append_right (x ∷ xs) ys zero l = absurd (omega arith)
  slice_get-append_right (x ∷ xs) ys (suc k) l =
      slice_get-append_right xs ys k (omega arith) ∙ ap (slice_get ys) (omega arith)

  take-append_left : (n : ℕ) (xs ys : List X) → n ≤ length xs → take n (xs ++ ys) ≡ take n xs
  take-append_left zero xs ys l = refl
  take-append_left (suc n) [] ys l = absurd (omega arith)
  take-append_left (suc n) (x ∷ xs) ys l = ap (λ zs. x ∷ zs) (take-append_left n xs ys (omega arith))

  pub none_within : (xs : List X) (k : ℕ) → None ≡ slice_get xs k → length xs ≤ k
  none_within [] k none = omega arith
  none_within (x ∷ xs) zero none = absurd (let some : None ≡ Some x = none in cc)
  none_within (x ∷ xs) (suc k) none = omega (arith, none_within xs k none)

-- Groups of 128 each.
module _ {X : Type 0} where
  -- the items of full groups
  pub length-full : (full : List (List X)) → All (λ group. length group ≡ 128) full
      → length (flat_map (λ group. group) full) ≡ length full * 128
  length-full [] whole = refl
  length-full (group ∷ full) whole =
      omega (
        arith,
        length-append group (flat_map (λ group. group) full),
        All-head (λ group. length group ≡ 128) group full whole,
        length-full full (All-tail (λ group. length group ≡ 128) group full whole),
      )

  pub length-grouped : (full : List (List X)) (last : List X) → All (λ group. length group ≡ 128) full
      → length (grouped full last) ≡ length full * 128 + length last
  length-grouped full last whole = omega (arith, length-append (flat_map (λ group. group) full) last, length-full full whole)

  -- the k-th stands in group k / 128
  pub got_in_full : (full : List (List X)) (last group : List X) (q r : ℕ) → All (λ group. length group ≡ 128) full
      → Some group ≡ slice_get full q → r < 128 → slice_get (grouped full last) (q * 128 + r) ≡ slice_get group r
  got_in_full [] last group q r whole is small = absurd (let none : Some group ≡ None = is in cc)
  got_in_full (first ∷ full) last group zero r whole is small =
      let long = All-head (λ group. length group ≡ 128) first full whole in
      let same : first ≡ group = (let e : Some group ≡ Some first = is in cc) in
      ap₂ slice_get (append_assoc first (flat_map (λ group. group) full) last) (omega arith)
      ∙ slice_get-append_left first (grouped full last) r (omega arith)
      ∙ ap (λ group. slice_get group r) same
  got_in_full (first ∷ full) last group (suc q) r whole is small =
      let long = All-head (λ group. length group ≡ 128) first full whole in
      ap₂ slice_get (append_assoc first (flat_map (λ group. group) full) last) refl
      ∙ slice_get-append_right first (grouped full last) (suc q * 128 + r) (omega arith)
      ∙ ap (slice_get (grouped full last)) (omega arith)
      ∙ got_in_full full last group q r (All-tail (λ group. length group ≡ 128) first full whole) is small

  -- or after the full ones
  pub got_in_last : (full : List (List X)) (last : List X) (k : ℕ) → All (λ group. length group ≡ 128) full
      → length full * 128 ≤ k → slice_get (grouped full last) k ≡ slice_get last (k - length full * 128)
  got_in_last full last k whole past =
      slice_get-append_right (flat_map (λ group. group) full) last k (omega (arith, length-full full whole))
      ∙ ap (slice_get last) (omega (arith, length-full full whole))

  -- the first items are those of some full groups and of a part of the next one
  pub first_in_full : (full : List (List X)) (last group : List X) (q r : ℕ) → All (λ group. length group ≡ 128) full
      → Some group ≡ slice_get full q → r < 128 → grouped (take q full) (take r group) ≡ take (q * 128 + r) (grouped full last)
  first_in_full [] last group q r whole is small = absurd (let none : Some group ≡ None = is in cc)
  first_in_full (first ∷ full) last group zero r whole is small =
      let long = All-head (λ group. length group ≡ 128) first full whole in
      let same : group ≡ first = (let e : Some group ≡ Some first = is in cc) in
      ap (take r) same
      ∙ sym (take-append_left r first (grouped full last) (omega arith))
      ∙ ap₂ take (let e : r ≡ zero * 128 + r = omega arith in e) (sym (append_assoc first (flat_map (λ group. group) full) last))
  first_in_full (first ∷ full) last group (suc q) r whole is small =
      let long = All-head (λ group. length group ≡ 128) first full whole in
      append_assoc first (flat_map (λ group. group) (take q full)) (take r group)
      ∙ ap (λ items. first ++ items) (first_in_full full last group q r (All-tail (λ group. length group ≡ 128) first full whole) is small)
      ∙ sym (take-append-add first (grouped full last) (q * 128 + r))
      ∙ ap₂ take (let e : length first + (q * 128 + r) ≡ suc q * 128 + r = omega arith in e)
      (sym (append_assoc first (flat_map (λ group. group) full) last))

  -- or those of all full groups and of a part of the last one
  pub first_in_last : (full : List (List X)) (last : List X) (count : ℕ) → All (λ group. length group ≡ 128) full
      → length full * 128 ≤ count → grouped full (take (count - length full * 128) last) ≡ take count (grouped full last)
  first_in_last full last count whole past =
      sym (take-append-add (flat_map (λ group. group) full) last (count - length full * 128))
      ∙ ap (λ n. take n (grouped full last)) (omega (arith, length-full full whole))
