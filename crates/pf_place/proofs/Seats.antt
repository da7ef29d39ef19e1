-- A row whose kept places are kept and whose free places in use are taken by the other picks is the row of the definition.
use Rattle.std.proofs.Common.{◌≡◌, ℕ, zero, suc, ◌+◌, ◌-◌, ◌<◌, ◌≤◌, true, false, not, Option, None, List, [], ◌∷◌, ◌++◌, add-one, drop-cons, length, get_or, take, drop, map, count_by, replicate, ap, ap₂, sym, subst, ◌∙◌, refl, arith, ltb, cond, inl, inr}
use Rattle.std.specs.List.{range_with_len, slice_get}
use Rattle.std.specs.Option.{is_none, option_or}
use Rattle.std.proofs.lemmas.Bool.{cases_lt, lt-ltb, le-ltb}
use Rattle.std.proofs.Math.ListN.{drop_of_length-le}
use Rattle.std.proofs.Math.Seq.{take-append_seam, drop-append_seam}
use Rattle.std.proofs.lemmas.List.{length-append, length-replicate, length-map, length-take, length-take-le, get_or_past, get_or-map, get_or-take, get_or_append_left, get_or-append_right, get_or-replicate}
use Rattle.std.proofs.lemmas.List.FromFn.{fill_by_all, length-map-range_with_len, get_or-map-range_with_len, take-map-range_with_len}
use Rattle.std.proofs.lemmas.List.Folds.{fold-map}
use Rattle.pf_order.specs.declared.pick.Pick.{Pick}
use Rattle.pf_place.specs.Occupancy.{sitter, next_pick, kept_at, is_seated, others, free_below, seat, row_of, idle_row}
use Rattle.pf_place.specs.Seating.{seats_filled_with}
use Rattle.pf_place.proofs.Filling.{length-filled, get_or-filled, filled_more, filled_none}

module _ (count : ℕ) (before : List (Option Pick)) (picks : List Pick) where
  -- the keepers of the places in use
  abbrev pub keepers : List (Option Pick)
  keepers = map (kept_at count before picks) (range_with_len 0 count)

  pub length-keepers : length keepers ≡ count
  length-keepers = length-map-range_with_len (kept_at count before picks) 0 count

  -- where each place in use had a sitter or was idle, they are the next picks of these
  pub keepers_by_sitter : count ≤ length before → map (next_pick picks) (take count before) ≡ keepers
  keepers_by_sitter within =
      let long : length (map (next_pick picks) (take count before)) ≡ count =
      length-map (take count before) (next_pick picks) ∙ length-take-le count before within in
      fill_by_all (kept_at count before picks) (map (next_pick picks) (take count before)) count None long
      (λ q l.
      let here : q < length (take count before) = omega (arith, length-take-le count before within) in
      let in_use : ltb q count ≡ true = lt-ltb q count l in
      get_or-map (next_pick picks) (take count before) q None None here
      ∙ ap (next_pick picks) (get_or-take count before q None l)
      ∙ ap (λ b. cond b (next_pick picks (sitter before q)) None) (sym in_use))

  filled_in_use : (q : ℕ) → q < count
      → get_or (seats_filled_with keepers (others (take count before) picks)) q None ≡ seat count before picks q
  filled_in_use q l =
      let kept : get_or keepers q None ≡ kept_at count before picks q =
      get_or-map-range_with_len (kept_at count before picks) 0 count q q None l (omega arith) in
      let free : count_by is_none (take q keepers) ≡ free_below count before picks q =
      ap (count_by is_none) (take-map-range_with_len (kept_at count before picks) 0 count q (omega arith))
      ∙ fold-map (λ a x. a + cond (is_none x) 1 0) (kept_at count before picks) 0 (range_with_len 0 q) in
      let in_use : ltb q count ≡ true = lt-ltb q count l in
      get_or-filled keepers (others (take count before) picks) q (omega (arith, length-keepers))
      ∙ rw (kept, free) (ap (λ b. option_or (kept_at count before picks q) (cond b (slice_get (others (take count before) picks) (free_below count before picks q)) None)) (sym in_use))

  idle_past : (q : ℕ) → count ≤ q → seat count before picks q ≡ None
  idle_past q l =
      let unused : ltb q count ≡ false = le-ltb q count l in
      ap (λ b. option_or (cond b (next_pick picks (sitter before q)) None) (cond b (slice_get (others (take count before) picks) (free_below count before picks q)) None)) unused

  -- the places in use are kept or filled, and the rest is idle
  pub row_from_filled : (m : ℕ) → count ≤ m
      → seats_filled_with keepers (others (take count before) picks) ++ replicate (m - count) None ≡ row_of m count before picks
  unfolding row_of
  row_from_filled m in_use =
      let places = seats_filled_with keepers (others (take count before) picks) in
      let same : length places ≡ count = length-filled keepers (others (take count before) picks) ∙ length-keepers in
      fill_by_all (seat count before picks) (places ++ replicate (m - count) None) m None
      (omega (arith, length-append places (replicate (m - count) None), length-replicate (m - count) (let n : Option Pick = None in n)))
      (λ q l. elim (cases_lt q count) as (λ _. get_or (places ++ replicate (m - count) None) q None ≡ seat count before picks q) [
        | inl below ↦
            get_or_append_left places (replicate (m - count) None) None q (omega arith) ∙ filled_in_use q below
        | inr past ↦
            get_or-append_right places (replicate (m - count) None) count q None same past
            ∙ get_or-replicate (m - count) (q - count) None None (omega arith)
            ∙ sym (idle_past q past)
      ])

  -- every place in use has its keeper, and no other place anybody
  kept_row : (m : ℕ) → count ≤ m → keepers ++ replicate (m - count) None ≡ map (kept_at count before picks) (range_with_len 0 m)
  kept_row m in_use =
      fill_by_all (kept_at count before picks) (keepers ++ replicate (m - count) None) m None
      (omega (arith, length-append keepers (replicate (m - count) None), length-keepers, length-replicate (m - count) (let n : Option Pick = None in n)))
      (λ q l. elim (cases_lt q count) as (λ _. get_or (keepers ++ replicate (m - count) None) q None ≡ kept_at count before picks q) [
        | inl below ↦
            get_or_append_left keepers (replicate (m - count) None) None q (omega (arith, length-keepers))
            ∙ get_or-map-range_with_len (kept_at count before picks) 0 count q q None below (omega arith)
        | inr past ↦
            let unused : ltb q count ≡ false = le-ltb q count past in
            get_or-append_right keepers (replicate (m - count) None) count q None length-keepers past
            ∙ get_or-replicate (m - count) (q - count) None None (omega arith)
            ∙ sym (ap (λ b. cond b (next_pick picks (sitter before q)) None) unused)
      ])

  -- whoever kept a place sat on one of those in use
  pub keepers_earlier : (m : ℕ)
      → map (λ q. next_pick picks (sitter (take count before) q)) (range_with_len 0 m) ≡ map (kept_at count before picks) (range_with_len 0 m)
  keepers_earlier m =
      let keeper = λ (q : ℕ). next_pick picks (sitter (take count before) q) in
      fill_by_all (kept_at count before picks) (map keeper (range_with_len 0 m)) m None (length-map-range_with_len keeper 0 m)
      (λ q l. get_or-map-range_with_len keeper 0 m q q None l (omega arith)
      ∙ elim (cases_lt q count) as (λ _. keeper q ≡ kept_at count before picks q) [
        | inl below ↦
            let in_use : ltb q count ≡ true = lt-ltb q count below in
            ap (next_pick picks) (get_or-take count before q None below)
            ∙ ap (λ b. cond b (next_pick picks (sitter before q)) None) (sym in_use)
        | inr past ↦
            let unused : ltb q count ≡ false = le-ltb q count past in
            let short : length (take count before) ≤ q = omega (arith, past, length-take count before) in
            ap (next_pick picks) (get_or_past (take count before) q None short)
            ∙ ap (λ b. cond b (next_pick picks (sitter before q)) None) (sym unused)
      ])

  -- the same row, where every place was given to its keeper first and then the free ones in use to the others
  pub row_from_kept : (m : ℕ) (kept : List (Option Pick)) → count ≤ m → kept ≡ map (kept_at count before picks) (range_with_len 0 m)
      → seats_filled_with (take count kept) (others (take count before) picks) ++ drop count kept ≡ row_of m count before picks
  row_from_kept m kept in_use is =
      let split : kept ≡ keepers ++ replicate (m - count) None = is ∙ sym (kept_row m in_use) in
      let front : take count kept ≡ keepers = ap (take count) split ∙ subst (λ n. take n (keepers ++ replicate (m - count) None) ≡ keepers) length-keepers (take-append_seam keepers (replicate (m - count) None)) in
      let back : drop count kept ≡ replicate (m - count) None = ap (drop count) split ∙ subst (λ n. drop n (keepers ++ replicate (m - count) None) ≡ replicate (m - count) None) length-keepers (drop-append_seam keepers (replicate (m - count) None)) in
      ap₂ (λ xs ys. seats_filled_with xs (others (take count before) picks) ++ ys) front back ∙ row_from_filled m in_use

drop_step : (picks : List Pick) (k : ℕ) (d : Pick) → k < length picks → drop k picks ≡ get_or picks k d ∷ drop (k + 1) picks
drop_step picks k d l = rw add-one (drop-cons picks k d l)

-- the other picks from the k-th on, where the k-th is one
others_more : (earlier : List (Option Pick)) (picks : List Pick) (k : ℕ) (d : Pick) → k < length picks
    → is_seated earlier (get_or picks k d).task ≡ false
    → others earlier (drop k picks) ≡ get_or picks k d ∷ others earlier (drop (k + 1) picks)
others_more earlier picks k d l apart =
    rw (drop_step picks k d l) (ap (λ b. cond (not b) (get_or picks k d ∷ others earlier (drop (k + 1) picks)) (others earlier (drop (k + 1) picks))) apart)

-- and where it is none
others_less : (earlier : List (Option Pick)) (picks : List Pick) (k : ℕ) (d : Pick) → k < length picks
    → is_seated earlier (get_or picks k d).task ≡ true
    → others earlier (drop k picks) ≡ others earlier (drop (k + 1) picks)
others_less earlier picks k d l sat =
    rw (drop_step picks k d l) (ap (λ b. cond (not b) (get_or picks k d ∷ others earlier (drop (k + 1) picks)) (others earlier (drop (k + 1) picks))) sat)

-- one pick more was seated, where it is an other one
pub seated_more : (old places : List (Option Pick)) (earlier : List (Option Pick)) (picks : List Pick) (k : ℕ) (d : Pick) → k < length picks
    → is_seated earlier (get_or picks k d).task ≡ false
    → seats_filled_with old (others earlier picks) ≡ seats_filled_with places (others earlier (drop k picks))
    → seats_filled_with old (others earlier picks) ≡ seats_filled_with (seats_filled_with places (get_or picks k d ∷ [])) (others earlier (drop (k + 1) picks))
seated_more old places earlier picks k d l apart so_far =
    so_far ∙ ap (seats_filled_with places) (others_more earlier picks k d l apart) ∙ filled_more places (get_or picks k d) (others earlier (drop (k + 1) picks))

-- and where it is none
pub seated_less : (old places : List (Option Pick)) (earlier : List (Option Pick)) (picks : List Pick) (k : ℕ) (d : Pick) → k < length picks
    → is_seated earlier (get_or picks k d).task ≡ true
    → seats_filled_with old (others earlier picks) ≡ seats_filled_with places (others earlier (drop k picks))
    → seats_filled_with old (others earlier picks) ≡ seats_filled_with places (others earlier (drop (k + 1) picks))
seated_less old places earlier picks k d l sat so_far =
    so_far ∙ ap (seats_filled_with places) (others_less earlier picks k d l sat)

-- all were seated
pub seated_all : (old places : List (Option Pick)) (earlier : List (Option Pick)) (picks : List Pick) (k : ℕ) → length picks ≤ k
    → seats_filled_with old (others earlier picks) ≡ seats_filled_with places (others earlier (drop k picks))
    → places ≡ seats_filled_with old (others earlier picks)
seated_all old places earlier picks k l so_far =
    sym (so_far ∙ ap (λ rest. seats_filled_with places (others earlier rest)) (drop_of_length-le picks l) ∙ filled_none places)

-- a row always has m places
pub length-row_of : (m count : ℕ) (before : List (Option Pick)) (picks : List Pick) → length (row_of m count before picks) ≡ m
unfolding row_of
length-row_of m count before picks = length-map-range_with_len (seat count before picks) 0 m

-- Where nothing is said of the row before, it was idle.
unseated_idle : (count m task : ℕ) → is_seated (take count (replicate m None)) task ≡ false
unseated_idle zero m task = refl
unseated_idle (suc count) zero task = refl
unseated_idle (suc count) (suc m) task = unseated_idle count m task

others_of_none : (places : List (Option Pick)) → ((task : ℕ) → is_seated places task ≡ false) → (picks : List Pick) → others places picks ≡ picks
others_of_none places apart [] = refl
others_of_none places apart (p ∷ picks) = rw (apart p.task) (ap (λ rest. p ∷ rest) (others_of_none places apart picks))

sitter_of_idle : (m q : ℕ) → sitter (idle_row m) q ≡ None
sitter_of_idle zero q = refl
sitter_of_idle (suc m) zero = refl
sitter_of_idle (suc m) (suc q) = sitter_of_idle m q

pub row_behind_none : (m count : ℕ) (picks : List Pick) → count ≤ m → row_of m count [] picks ≡ row_of m count (idle_row m) picks
row_behind_none m count picks in_use =
    let kept : keepers count [] picks ≡ keepers count (idle_row m) picks =
    fill_by_all (kept_at count (idle_row m) picks) (keepers count [] picks) count None (length-keepers count [] picks)
    (λ q l. get_or-map-range_with_len (kept_at count [] picks) 0 count q q None l (omega arith)
    ∙ ap (λ sat. cond (ltb q count) (next_pick picks sat) None) (sym (sitter_of_idle m q))) in
    let rest : others (take count []) picks ≡ others (take count (idle_row m)) picks =
    others_of_none (take count []) (unseated_idle count 0) picks ∙ sym (others_of_none (take count (idle_row m)) (unseated_idle count m) picks) in
    sym (row_from_filled count [] picks m in_use)
    ∙ ap₂ (λ places rest. seats_filled_with places rest ++ replicate (m - count) None) kept rest
    ∙ row_from_filled count (idle_row m) picks m in_use
