-- A row seats exactly the picks of its slot, each once.
use Rattle.std.proofs.Common.{◌≡◌, ◌≢◌, ℕ, zero, suc, ◌+◌, ◌-◌, ◌≤◌, Bool, true, false, not, ◌||◌, inl, inr, Option, Some, None, List, [], ◌∷◌, ◌++◌, length, take, drop, map, get_or, filter, count_by, replicate, ap, sym, ◌∙◌, refl, subst, eqb, cond, arith}
use Rattle.std.specs.List.{All, AllPairs, filter_map, cons_option}
use Rattle.std.specs.List.Sorted.{IsPermutation}
use Rattle.std.specs.Option.{is_none, option_to_list}
use Rattle.std.proofs.lemmas.Bool.{cases_Bool, cases_eq, eqb-true, eq-eqb}
use Rattle.std.proofs.lemmas.Bool.Decides.{nat_tests}
use Rattle.std.proofs.lemmas.List.{append-nil, take-append-drop, get_or_append_left, length-append, length-replicate}
use Rattle.std.proofs.lemmas.List.Elements.{All-head, All-tail, filter_map-append}
use Rattle.std.proofs.lemmas.List.Kept.{AllPairs-cons}
use Rattle.std.proofs.lemmas.List.Filters.{length-filter_both}
use Rattle.std.proofs.lemmas.List.Sums.{sum_by-cons, length-filter, get_or-le-sum_by}
use Rattle.std.proofs.lemmas.List.Sorted.{IsPermutation-refl, IsPermutation-cons, IsPermutation-middle, IsPermutation-trans, IsPermutation-sym, IsPermutation-append_left, IsPermutation-append_right, IsPermutation-filter_both, length_permutation, sum_by-IsPermutation}
use Rattle.pf_order.specs.declared.pick.Pick.{Pick}
use Rattle.pf_place.specs.Occupancy.{sitters, is_seated, NoTaskTwice, pick_of, next_pick, others, row_of, idle_row}
use Rattle.pf_place.specs.Seating.{seats_filled_with}
use Rattle.pf_place.specs.Turns.{IsTurn, IsRow}
use Rattle.pf_place.proofs.Filling.{filled_seats}
use Rattle.pf_place.proofs.Seats.{keepers, length-keepers, keepers_by_sitter, row_from_filled, length-row_of}

module _ {X : Type 0} where
  AllPairs-head : (R : X → X → Type 0) (x : X) (xs : List X) → AllPairs R (x ∷ xs) → All (R x) xs
  AllPairs-head R x xs h = λ k d l. h zero (suc k) d (omega arith) (omega arith)

  AllPairs-tail : (R : X → X → Type 0) (x : X) (xs : List X) → AllPairs R (x ∷ xs) → AllPairs R xs
  AllPairs-tail R x xs h = λ i j d l k. h (suc i) (suc j) d (omega arith) (omega arith)

  AllPairs-front : (R : X → X → Type 0) (xs ys : List X) → AllPairs R (xs ++ ys) → AllPairs R xs
  AllPairs-front R xs ys h = λ i j d l k.
      rw (← get_or_append_left xs ys d i (omega arith), ← get_or_append_left xs ys d j (omega arith)) (h i j d l (omega (arith, length-append xs ys)))

  -- what passes either of two tests that nothing passes both of
  filter_either : (p q : X → Bool) → ((x : X) → p x ≡ true → q x ≡ false) → (xs : List X)
      → IsPermutation (filter p xs ++ filter q xs) (filter (λ x. p x || q x) xs)
  filter_either p q apart [] = IsPermutation-refl []
  filter_either p q apart (x ∷ xs) =
      let rest = filter_either p q apart xs in
      elim (cases_Bool (p x)) [
        | inl first ↦ let not_second : q x ≡ false = apart x first in rw (first, not_second) (IsPermutation-cons x _ _ rest)
        | inr not_first ↦ elim (cases_Bool (q x)) [
          | inl second ↦ rw (not_first, second) (IsPermutation-trans _ _ _ (IsPermutation-middle (filter p xs) x (filter q xs)) (IsPermutation-cons x _ _ rest))
          | inr neither ↦ rw (not_first, neither) rest
        ]
      ]

  -- nothing passes a test that always fails
  filter_none : (xs : List X) → filter (λ x. false) xs ≡ []
  filter_none [] = refl
  filter_none (x ∷ xs) = filter_none xs

  cons_option-append : (o : Option X) (xs : List X) → cons_option o xs ≡ option_to_list o ++ xs
  cons_option-append None xs = refl
  cons_option-append (Some x) xs = refl

  -- each place is taken or free
  taken_or_free : (places : List (Option X)) → length (filter_map (λ o. o) places) + count_by is_none places ≡ length places
  taken_or_free [] = refl
  taken_or_free (Some x ∷ places) = omega (arith, taken_or_free places)
  taken_or_free (None ∷ places) = omega (arith, taken_or_free places, sum_by-cons (λ o. cond (is_none o) 1 0) None places)

  -- idle places seat nobody
  pub idle_seat_nobody : (n : ℕ) → filter_map (λ o. o) (replicate n (let o : Option X = None in o)) ≡ []
  idle_seat_nobody zero = refl
  idle_seat_nobody (suc n) = idle_seat_nobody n

-- a part of a row has no task twice where the row has none
NoTaskTwice-take : (count : ℕ) (row : List (Option Pick)) → NoTaskTwice (sitters row) → NoTaskTwice (sitters (take count row))
NoTaskTwice-take count row once =
    let parts : sitters row ≡ sitters (take count row) ++ sitters (drop count row) =
    ap sitters (sym (take-append-drop count row)) ∙ filter_map-append (λ o. o) (take count row) (drop count row) in
    AllPairs-front (λ p q. p.task ≢ q.task) (sitters (take count row)) (sitters (drop count row)) (subst NoTaskTwice parts once)

-- whose task differs from each sitter's has no seat
unseated : (p : Pick) (row : List (Option Pick)) → All (λ q. p.task ≢ q.task) (sitters row) → is_seated row p.task ≡ false
unseated p [] apart = refl
unseated p (None ∷ row) apart = unseated p row apart
unseated p (Some q ∷ row) apart =
    let differ : p.task ≢ q.task = All-head (λ q. p.task ≢ q.task) q (sitters row) apart in
    let no : eqb q.task p.task ≡ false = grind (arith, nat_tests) in
    rw no (unseated p row (All-tail (λ q. p.task ≢ q.task) q (sitters row) apart))

-- a task that differs from each pick's has none of them
none_of_task : (task : ℕ) (p : Pick) → p.task ≡ task → (picks : List Pick) → All (λ q. p.task ≢ q.task) picks → filter (λ q. eqb task q.task) picks ≡ []
none_of_task task p same [] apart = refl
none_of_task task p same (q ∷ picks) apart =
    let differ : p.task ≢ q.task = All-head (λ q. p.task ≢ q.task) q picks apart in
    let no : eqb task q.task ≡ false = grind (arith, nat_tests) in
    rw no (none_of_task task p same picks (All-tail (λ q. p.task ≢ q.task) q picks apart))

-- a task has one pick or none
of_task : (task : ℕ) (picks : List Pick) → NoTaskTwice picks → filter (λ p. eqb task p.task) picks ≡ option_to_list (pick_of picks task)
of_task task [] once = refl
of_task task (p ∷ picks) once =
    elim (cases_eq p.task task) [
      | inl same ↦
          let here : eqb task p.task ≡ true = grind (arith, nat_tests) in
          let found : eqb p.task task ≡ true = grind (arith, nat_tests) in
          rw (here, found) (ap (λ xs. p ∷ xs) (none_of_task task p same picks (AllPairs-head (λ p q. p.task ≢ q.task) p picks once)))
      | inr differ ↦
          let here : eqb task p.task ≡ false = grind (arith, nat_tests) in
          let found : eqb p.task task ≡ false = grind (arith, nat_tests) in
          rw (here, found) (of_task task picks (AllPairs-tail (λ p q. p.task ≢ q.task) p picks once))
    ]

-- the keepers are the picks whose task sat there
keepers_seated : (earlier : List (Option Pick)) (picks : List Pick) → NoTaskTwice (sitters earlier) → NoTaskTwice picks
    → IsPermutation (filter (λ p. is_seated earlier p.task) picks) (sitters (map (next_pick picks) earlier))
keepers_seated [] picks apart once = rw (filter_none picks) (IsPermutation-refl [])
keepers_seated (None ∷ earlier) picks apart once = keepers_seated earlier picks apart once
keepers_seated (Some b ∷ earlier) picks apart once =
    let away = AllPairs-head (λ p q. p.task ≢ q.task) b (sitters earlier) apart in
    let disjoint = λ (x : Pick) (same : eqb b.task x.task ≡ true).
    subst (λ (t : ℕ). is_seated earlier t ≡ false) (eqb-true b.task x.task same) (unseated b earlier away) in
    let split = filter_either (λ p. eqb b.task p.task) (λ p. is_seated earlier p.task) disjoint picks in
    let rest = keepers_seated earlier picks (AllPairs-tail (λ p q. p.task ≢ q.task) b (sitters earlier) apart) once in
    IsPermutation-trans _ _ _ (IsPermutation-sym _ _ split)
    (rw (of_task b.task picks once, cons_option-append (pick_of picks b.task) (sitters (map (next_pick picks) earlier)))
    (IsPermutation-append_right (option_to_list (pick_of picks b.task)) _ _ rest))

-- the row's sitters are the picks
pub row_seats_picks : (m count : ℕ) (before : List (Option Pick)) (picks : List Pick) → count ≤ m → length before ≡ m → length picks ≤ count
    → NoTaskTwice picks → NoTaskTwice (sitters before) → IsPermutation picks (sitters (row_of m count before picks))
row_seats_picks m count before picks in_use long few once apart =
    let keep = λ (p : Pick). is_seated (take count before) p.task in
    let kept = keepers count before picks in
    let rest = others (take count before) picks in
    let keepers_are : IsPermutation (filter keep picks) (sitters kept) =
    rw (← keepers_by_sitter count before picks (omega arith)) (keepers_seated (take count before) picks (NoTaskTwice-take count before apart) once) in
    let all_picks = IsPermutation-filter_both keep (λ p. not (keep p)) (λ _. refl) picks in
    let room : length rest ≤ count_by is_none kept =
    omega (
      arith,
      length-keepers count before picks,
      taken_or_free kept,
      length_permutation _ _ keepers_are,
      length-filter_both keep (λ p. not (keep p)) (λ _. refl) picks,
    ) in
    let row : sitters (row_of m count before picks) ≡ sitters (seats_filled_with kept rest) =
    ap sitters (sym (row_from_filled count before picks m in_use))
    ∙ filter_map-append (λ o. o) (seats_filled_with kept rest) (replicate (m - count) None)
    ∙ ap (λ xs. sitters (seats_filled_with kept rest) ++ xs) (idle_seat_nobody (m - count))
    ∙ append-nil (sitters (seats_filled_with kept rest)) in
    rw row (IsPermutation-trans _ _ _ all_picks
    (IsPermutation-trans _ _ _ (IsPermutation-append_left rest _ _ keepers_are) (filled_seats kept rest room)))

-- 1 for a pick of the task
abbrev counted : ℕ → Pick → ℕ
counted task p = cond (eqb task p.task) 1 0

counted_once : (task : ℕ) (p : Pick) → task ≡ p.task → counted task p ≡ 1
counted_once task p same = let here : eqb task p.task ≡ true = eq-eqb task p.task same in rw here

-- a task is counted once at most
count_of_task : (task : ℕ) (picks : List Pick) → NoTaskTwice picks → count_by (λ p. eqb task p.task) picks ≤ 1
count_of_task task picks once =
    let one : length (option_to_list (pick_of picks task)) ≤ 1 = elim (pick_of picks task) as (λ o. length (option_to_list o) ≤ 1) [ None ↦ omega arith | Some p ↦ omega arith ] in
    omega (arith, length-filter (λ p. eqb task p.task) picks, ap length (of_task task picks once))

-- where each task is counted once at most, none is there twice
NoTaskTwice-from_counts : (picks : List Pick) → ((task : ℕ) → count_by (λ p. eqb task p.task) picks ≤ 1) → NoTaskTwice picks
NoTaskTwice-from_counts [] one = λ i j d l k. absurd (omega arith)
NoTaskTwice-from_counts (p ∷ picks) one =
    let differ : All (λ q. p.task ≢ q.task) picks = λ k d l same.
    omega (
      arith,
      one p.task,
      sum_by-cons (counted p.task) p picks,
      counted_once p.task p refl,
      get_or-le-sum_by (counted p.task) picks k d l,
      counted_once p.task (get_or picks k d) same,
    ) in
    let rest = NoTaskTwice-from_counts picks (λ task. omega (arith, one task, sum_by-cons (counted task) p picks)) in
    AllPairs-cons (λ p q. p.task ≢ q.task) p picks differ rest

-- picks in another order have no task twice either
NoTaskTwice-permutation : (xs ys : List Pick) → IsPermutation xs ys → NoTaskTwice xs → NoTaskTwice ys
NoTaskTwice-permutation xs ys same once =
    NoTaskTwice-from_counts ys (λ task. let count = sum_by-IsPermutation (counted task) xs ys same in omega (arith, count_of_task task xs once, count))

-- so a row seats no task twice
pub row_seats_once : (m count : ℕ) (before : List (Option Pick)) (picks : List Pick) → count ≤ m → length before ≡ m → length picks ≤ count
    → NoTaskTwice picks → NoTaskTwice (sitters before) → NoTaskTwice (sitters (row_of m count before picks))
row_seats_once m count before picks in_use long few once apart =
    NoTaskTwice-permutation picks _ (row_seats_picks m count before picks in_use long few once apart) once

-- Use: each row can stand before the next, and an idle one before the first.
pub row_is_row : (m count : ℕ) (before : List (Option Pick)) (picks : List Pick) → IsTurn m count picks → IsRow m before
    → IsRow m (row_of m count before picks)
row_is_row m count before picks turn row = record {
  places = length-row_of m count before picks;
  once = row_seats_once m count before picks turn.in_use row.places turn.few turn.once row.once;
}

pub idle_is_row : (m : ℕ) → IsRow m (idle_row m)
idle_is_row m = record {
  places = length-replicate m None;
  once = subst NoTaskTwice (sym (idle_seat_nobody m)) (λ i j d before within. absurd (omega arith));
}
