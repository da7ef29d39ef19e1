-- Free places are taken from a list, in order.
use Rattle.std.proofs.Common.{add_comm, add-one, ◌≡◌, ℕ, zero, suc, ◌+◌, ◌<◌, ◌≤◌, Option, Some, None, List, [], ◌∷◌, ◌++◌, length, get_or, set, take, count_by, ap, sym, ◌∙◌, refl, cond, arith}
use Rattle.std.specs.List.{slice_get, filter_map, position_or_len}
use Rattle.std.specs.List.Sorted.{IsPermutation}
use Rattle.std.specs.Option.{is_none, option_or}
use Rattle.std.proofs.lemmas.List.Sums.{sum_by-cons}
use Rattle.std.proofs.lemmas.List.Sorted.{IsPermutation-refl, IsPermutation-cons, IsPermutation-middle, IsPermutation-trans}
use Rattle.pf_place.specs.Seating.{seats_filled_with}

module _ {X : Type 0} where
  count_free : (places : List (Option X)) → count_by is_none (None ∷ places) ≡ suc (count_by is_none places)
  count_free places = omega (arith, sum_by-cons (λ o. cond (is_none o) 1 0) None places)

  pub length-filled : (places : List (Option X)) (rest : List X) → length (seats_filled_with places rest) ≡ length places
  length-filled [] rest = refl
  length-filled (Some x ∷ places) rest = ap suc (length-filled places rest)
  length-filled (None ∷ places) [] = ap suc (length-filled places [])
  length-filled (None ∷ places) (y ∷ rest) = ap suc (length-filled places rest)

  -- a free place goes to the one whose turn it is: as many stand before it as places before this one are free
  pub get_or-filled : (places : List (Option X)) (rest : List X) (q : ℕ) → q < length places
      → get_or (seats_filled_with places rest) q None ≡ option_or (get_or places q None) (slice_get rest (count_by is_none (take q places)))
  get_or-filled [] rest q l = absurd (omega arith)
  get_or-filled (Some x ∷ places) rest zero l = refl
  get_or-filled (Some x ∷ places) rest (suc q) l = get_or-filled places rest q (omega arith)
  get_or-filled (None ∷ places) [] zero l = refl
  get_or-filled (None ∷ places) (y ∷ rest) zero l = refl
  get_or-filled (None ∷ places) [] (suc q) l = get_or-filled places [] q (omega arith)
  get_or-filled (None ∷ places) (y ∷ rest) (suc q) l =
      get_or-filled places rest q (omega arith)
      ∙ ap (λ k. option_or (get_or places q None) (slice_get (y ∷ rest) k)) (sym (count_free (take q places)))

  -- where no more are to be seated than places are free, all are
  pub filled_seats : (places : List (Option X)) (rest : List X) → length rest ≤ count_by is_none places
      → IsPermutation (filter_map (λ o. o) places ++ rest) (filter_map (λ o. o) (seats_filled_with places rest))
  filled_seats [] [] few = IsPermutation-refl []
  filled_seats [] (y ∷ rest) few = absurd (omega arith)
  filled_seats (Some x ∷ places) rest few =
      IsPermutation-cons x _ _ (filled_seats places rest few)
  filled_seats (None ∷ places) [] few = filled_seats places [] (omega arith)
  filled_seats (None ∷ places) (y ∷ rest) few =
      IsPermutation-trans _ _ _ (IsPermutation-middle (filter_map (λ o. o) places) y rest)
      (IsPermutation-cons y _ _ (filled_seats places rest (omega (arith, count_free places))))

  -- where nobody is to be seated, the places stay
  pub filled_none : (places : List (Option X)) → seats_filled_with places [] ≡ places
  filled_none [] = refl
  filled_none (Some x ∷ places) = ap (λ rest. Some x ∷ rest) (filled_none places)
  filled_none (None ∷ places) = ap (λ rest. None ∷ rest) (filled_none places)

  -- the first is seated, and then the others
  pub filled_more : (places : List (Option X)) (y : X) (rest : List X) → seats_filled_with places (y ∷ rest) ≡ seats_filled_with (seats_filled_with places (y ∷ [])) rest
  filled_more [] y rest = refl
  filled_more (Some x ∷ places) y rest = ap (λ ps. Some x ∷ ps) (filled_more places y rest)
  filled_more (None ∷ places) y rest = ap (λ ps. Some y ∷ seats_filled_with ps rest) (sym (filled_none places))

  -- one takes the lowest free place
  pub lowest_filled : (places : List (Option X)) (y : X) → position_or_len is_none places < length places
      → set places (position_or_len is_none places) (Some y) ≡ seats_filled_with places (y ∷ [])
  lowest_filled [] y l = absurd (omega arith)
  lowest_filled (None ∷ places) y l = ap (λ ps. Some y ∷ ps) (sym (filled_none places))
  lowest_filled (Some x ∷ places) y l =
      rw (add_comm, add-one) (ap (λ ps. Some x ∷ ps) (lowest_filled places y (omega arith)))

  -- where none is free, it does not matter who is to be seated
  pub filled_full : (places : List (Option X)) → length places ≤ position_or_len is_none places → (rest others : List X)
      → seats_filled_with places rest ≡ seats_filled_with places others
  filled_full [] full rest others = refl
  filled_full (None ∷ places) full rest others = absurd (omega arith)
  filled_full (Some x ∷ places) full rest others = ap (λ ps. Some x ∷ ps) (filled_full places (omega arith) rest others)

  -- the next free place is after it
  pub next_behind : (places : List (Option X)) (y : X) → position_or_len is_none places < length places
      → position_or_len is_none places + 1 ≤ position_or_len is_none (set places (position_or_len is_none places) (Some y))
  next_behind [] y l = absurd (omega arith)
  next_behind (None ∷ places) y l = omega arith
  next_behind (Some x ∷ places) y l =
      let at : set (Some x ∷ places) (position_or_len is_none (Some x ∷ places)) (Some y) ≡ Some x ∷ set places (position_or_len is_none places) (Some y) =
      rw (add_comm, add-one) refl in
      rw at (omega (arith, next_behind places y (omega arith)))
