-- Rows in full blocks and a last one: where the t-th stands, which is the last, and what is filed anew.
use Rattle.std.proofs.Common.{◌≡◌, Some, None, lit≤, ◌^◌, ℕ, zero, suc, ◌+◌, ◌-◌, ◌*◌, ◌<◌, ◌≤◌, Option, List, [], ◌∷◌, ◌++◌, length, take, ap, ap₂, sym, ◌∙◌, refl, arith, inl, inr, append_assoc, length-append}
use Rattle.std.specs.List.{All, slice_get}
use Rattle.std.proofs.Math.Seq.{take-append-add}
use Rattle.std.proofs.lemmas.Bool.{cases_lt}
use Rattle.std.proofs.lemmas.Grind.{flat_map-append}
use Rattle.std.proofs.lemmas.List.{append-nil}
use Rattle.std.proofs.lemmas.List.Elements.{All-head, All-tail, All-nil, All-cons}
use Rattle.std.proofs.lemmas.Option.{slice_get-get_or}
use Rattle.pf_order.specs.declared.pick.Pick.{Pick}
use Rattle.pf_place.specs.Blocks.{all_rows_of, Held, KeepsRoom, HasRoomFor}
use Rattle.pf_place.specs.Filed.{AreFiled}
use Rattle.pf_place.specs.Occupancy.{row_of, idle_row}
use Rattle.pf_place.specs.RunRows.{last_row, but_last, row_before}
use Rattle.pf_place.proofs.Blocks.{last_of_some, last_is_read, last_behind, but_last_behind}
use Rattle.pf_place.proofs.Seats.{row_behind_none}

module _ {X : Type 0} where
  slice_get-append_left : (xs ys : List X) (k : ℕ) → k < length xs → slice_get (xs ++ ys) k ≡ slice_get xs k
  slice_get-append_left [] ys k l = absurd (omega arith)
  slice_get-append_left (x ∷ xs) ys zero l = refl
  slice_get-append_left (x ∷ xs) ys (suc k) l = slice_get-append_left xs ys k (omega arith)

  slice_get-append_right : (xs ys : List X) (k : ℕ) → length xs ≤ k → slice_get (xs ++ ys) k ≡ slice_get ys (k - length xs)
  slice_get-append_right [] ys k l = ap (slice_get ys) (omega arith)
  slice_get-append_right (x ∷ xs) ys zero l = absurd (omega arith)
  slice_get-append_right (x ∷ xs) ys (suc k) l =
      slice_get-append_right xs ys k (omega arith) ∙ ap (slice_get ys) (omega arith)

  -- full blocks of 64 each, one after another
  pub length-full : (full : List (List X)) → All (λ rows. length rows ≡ 64) full → length (all_rows_of full) ≡ length full * 64
  length-full [] whole = refl
  length-full (rows ∷ full) whole =
      omega (
        arith,
        length-append rows (all_rows_of full),
        All-head (λ rows. length rows ≡ 64) rows full whole,
        length-full full (All-tail (λ rows. length rows ≡ 64) rows full whole),
      )

  -- the t-th stands in block t / 64
  pub got_in_full : (full : List (List X)) (back rows : List X) (q r : ℕ) → All (λ rows. length rows ≡ 64) full
      → Some rows ≡ slice_get full q → r < 64 → slice_get (all_rows_of full ++ back) (q * 64 + r) ≡ slice_get rows r
  got_in_full [] back rows q r whole is small = absurd (let none : Some rows ≡ None = is in cc)
  got_in_full (first ∷ full) back rows zero r whole is small =
      let long = All-head (λ rows. length rows ≡ 64) first full whole in
      let same : first ≡ rows = (let e : Some rows ≡ Some first = is in cc) in
      ap₂ slice_get (append_assoc first (all_rows_of full) back) (omega arith)
      ∙ slice_get-append_left first (all_rows_of full ++ back) r (omega arith)
      ∙ ap (λ rows. slice_get rows r) same
  got_in_full (first ∷ full) back rows (suc q) r whole is small =
      let long = All-head (λ rows. length rows ≡ 64) first full whole in
      ap₂ slice_get (append_assoc first (all_rows_of full) back) refl
      ∙ slice_get-append_right first (all_rows_of full ++ back) (suc q * 64 + r) (omega arith)
      ∙ ap (slice_get (all_rows_of full ++ back)) (omega arith)
      ∙ got_in_full full back rows q r (All-tail (λ rows. length rows ≡ 64) first full whole) is small

  -- or after the full ones
  pub got_in_last : (full : List (List X)) (back : List X) (t : ℕ) → All (λ rows. length rows ≡ 64) full → length full * 64 ≤ t
      → slice_get (all_rows_of full ++ back) t ≡ slice_get back (t - length full * 64)
  got_in_last full back t whole past =
      slice_get-append_right (all_rows_of full) back t (omega (arith, length-full full whole))
      ∙ ap (slice_get back) (omega (arith, length-full full whole))

  -- a block more among the full ones
  pub joined-more : (full : List (List X)) (rows back : List X) → all_rows_of (full ++ rows ∷ []) ++ back ≡ all_rows_of full ++ (rows ++ back)
  joined-more full rows back =
      ap (λ xs. xs ++ back) (flat_map-append (λ rows. rows) full (rows ∷ []) ∙ ap (λ end. all_rows_of full ++ end) (append-nil rows))
      ∙ append_assoc (all_rows_of full) rows back

-- the last of some rows after others
last-append : (before : List (Option Pick)) (xs ys : List (List (Option Pick))) → last_row before (xs ++ ys) ≡ last_row (last_row before xs) ys
last-append before [] ys = refl
last-append before (row ∷ xs) ys = last-append row xs ys

-- the last row of all is that of the last block
pub last_behind_full : (before other : List (Option Pick)) (front rows : List (List (Option Pick))) → 0 < length rows → last_row before (front ++ rows) ≡ last_row other rows
last_behind_full before other front rows some = last-append before front rows ∙ last_of_some (last_row before front) other rows some

-- and those before it are the full blocks' and the others of the last one
pub but_last_behind_full : (front rows : List (List (Option Pick))) → 0 < length rows → but_last (front ++ rows) ≡ front ++ but_last rows
but_last_behind_full front rows some =
    ap (λ n. take n (front ++ rows)) (let n : length (front ++ rows) - 1 ≡ length front + (length rows - 1) = omega (arith, length-append front rows) in n)
    ∙ take-append-add front rows (length rows - 1)

module _ (full : List (List (List (Option Pick)))) (old : Held) (filed : AreFiled full old) where
  -- where there is a row, the last block has one
  pub some_in_last : 0 < length (all_rows_of full ++ old.rows) → 0 < length old.rows
  some_in_last some = elim (cases_lt 0 (length full)) [
    | inl l ↦ filed.some l
    | inr none ↦ omega (arith, length-append (all_rows_of full) old.rows, length-full full filed.whole)
  ]

-- more room is room enough
pub room_kept : (old new : Held) (rows : List (List (Option Pick))) → KeepsRoom old new → HasRoomFor old rows → HasRoomFor new rows
room_kept old new rows room fits = record {
  for_places = omega (arith, fits.for_places, room.for_places);
  for_rows = omega (arith, fits.for_rows, room.for_rows);
}

All-front : {X : Type 0} (P : X → Type 0) (xs : List X) (x : X) → All P (xs ++ x ∷ []) → All P xs
All-front P [] x h = All-nil P
All-front P (y ∷ xs) x h = All-cons P y xs (All-head P y (xs ++ x ∷ []) h) (All-front P xs x (All-tail P y (xs ++ x ∷ []) h))

All-end : {X : Type 0} (P : X → Type 0) (xs : List X) (x : X) → All P (xs ++ x ∷ []) → P x
All-end P [] x h = All-head P x [] h
All-end P (y ∷ xs) x h = All-end P xs x (All-tail P y (xs ++ x ∷ []) h)

All-kept : {X : Type 0} (P Q : X → Type 0) → ((x : X) → P x → Q x) → (xs : List X) → All P xs → All Q xs
All-kept P Q keep [] h = All-nil Q
All-kept P Q keep (x ∷ xs) h = All-cons Q x xs (keep x (All-head P x xs h)) (All-kept P Q keep xs (All-tail P x xs h))

-- there is room for the rows of each block still
pub room_for_each : (old new : Held) (full : List (List (List (Option Pick)))) → KeepsRoom old new → All (HasRoomFor old) full → All (HasRoomFor new) full
room_for_each old new full room fits = All-kept (HasRoomFor old) (HasRoomFor new) (λ rows h. room_kept old new rows room h) full fits

-- the last full block was opened again
pub filed_opened : (full : List (List (List (Option Pick)))) (rows : List (List (Option Pick))) (old new : Held)
    → All (λ rows. length rows ≡ 64) (full ++ rows ∷ []) → length (full ++ rows ∷ []) ≤ 2 ^ 54 → All (HasRoomFor old) (full ++ rows ∷ [])
    → KeepsRoom old new → new.rows ≡ rows → AreFiled full new
filed_opened full rows old new whole few fits room is =
    let long = All-end (λ rows. length rows ≡ 64) full rows whole in
    record {
      whole = All-front (λ rows. length rows ≡ 64) full rows whole;
      part = omega (arith, ap length is);
      some = λ _. omega (arith, ap length is);
      room = room_for_each old new full room (All-front (HasRoomFor old) full rows fits);
      few = omega (arith, few, length-append full (rows ∷ []));
    }

-- no full blocks
pub filed_last : (full : List (List (List (Option Pick)))) (new : Held) → length full ≡ 0 → length new.rows ≤ 64 → AreFiled full new
filed_last full new none part = record {
  whole = λ k d l. absurd (omega arith);
  part = part;
  some = λ l. absurd (omega arith);
  room = λ k d l. absurd (omega arith);
  few = omega (arith, (let small : 0 ≤ 2 ^ 54 = lit≤ tt in small));
}

-- the last row of the full blocks
pub last_of_full : (full : List (List (List (Option Pick)))) (rows : List (List (Option Pick))) → All (λ rows. length rows ≡ 64) full
    → 0 < length full → Some rows ≡ slice_get full (length full - 1) → slice_get rows 63 ≡ Some (last_row [] (all_rows_of full))
last_of_full full rows whole some is =
    let long = length-full full whole in
    let at : (length full - 1) * 64 + 63 ≡ length (all_rows_of full) - 1 = omega arith in
    sym (got_in_full full [] rows (length full - 1) 63 whole is (omega arith))
    ∙ ap₂ slice_get (append-nil (all_rows_of full)) at
    ∙ slice_get-get_or (all_rows_of full) (length (all_rows_of full) - 1) [] (omega arith)
    ∙ ap Some (sym (last_is_read [] [] (all_rows_of full) (omega arith)))

-- a row in place of the idle one that was appended
pub idle_is_last : (front rows old : List (List (Option Pick))) (idle : List (Option Pick)) → 0 < length rows → front ++ rows ≡ old ++ idle ∷ []
    → last_row [] rows ≡ idle
idle_is_last front rows old idle some is = sym (last_behind_full [] [] front rows some) ∙ ap (last_row []) is ∙ last_behind [] old idle

pub row_pushed : (front rows old : List (List (Option Pick))) (idle row : List (Option Pick)) → 0 < length rows → front ++ rows ≡ old ++ idle ∷ []
    → front ++ (but_last rows ++ row ∷ []) ≡ old ++ row ∷ []
row_pushed front rows old idle row some is =
    sym (append_assoc front (but_last rows) (row ∷ []))
    ∙ ap (λ xs. xs ++ row ∷ []) (sym (but_last_behind_full front rows some) ∙ ap but_last is ∙ but_last_behind old idle)

-- after the last one is none
pub none_within : {X : Type 0} (xs : List X) (k : ℕ) → None ≡ slice_get xs k → length xs ≤ k
none_within [] k none = omega arith
none_within (x ∷ xs) zero none = absurd (let some : None ≡ Some x = none in cc)
none_within (x ∷ xs) (suc k) none = omega (arith, none_within xs k none)

pub some_within : {X : Type 0} (xs : List X) (k : ℕ) (x : X) → Some x ≡ slice_get xs k → k < length xs
some_within [] k x is = absurd (let none : Some x ≡ None = is in cc)
some_within (y ∷ xs) zero x is = omega arith
some_within (y ∷ xs) (suc k) x is = omega (arith, some_within xs k x is)

-- the others, and the last one
last_taken : {X : Type 0} (n : ℕ) (xs : List X) (x : X) → length xs ≡ suc n → Some x ≡ slice_get xs n → take n xs ++ x ∷ [] ≡ xs
last_taken n [] x long is = absurd (omega arith)
last_taken zero (y ∷ []) x long is = (let e : Some x ≡ Some y = is in let same : x ≡ y = cc in ap (λ z. z ∷ []) same)
last_taken zero (y ∷ z ∷ xs) x long is = absurd (omega arith)
last_taken (suc n) (y ∷ xs) x long is = ap (λ rest. y ∷ rest) (last_taken n xs x (omega arith) is)

-- the blocks before the last, and the last
pub blocks_less : {X : Type 0} (blocks : List X) (block : X) → Some block ≡ slice_get blocks (length blocks - 1)
    → take (length blocks - 1) blocks ++ block ∷ [] ≡ blocks
blocks_less blocks block is = last_taken (length blocks - 1) blocks block (omega (arith, some_within blocks (length blocks - 1) block is)) is

-- Picks in the last row.
module _ (front rows now : List (List (Option Pick))) (some : 0 < length rows) (is : front ++ rows ≡ now) where
  pub last_is : last_row [] rows ≡ last_row [] now
  last_is = sym (last_behind_full [] [] front rows some) ∙ ap (last_row []) is

  pub front_is : front ++ but_last rows ≡ but_last now
  front_is = sym (but_last_behind_full front rows some) ∙ ap but_last is

  pub row_seated : (count : ℕ) (picks : List Pick) → count ≤ length (last_row [] now)
      → front ++ (but_last rows ++ row_of (length (last_row [] rows)) count (last_row (last_row [] front) (but_last rows)) picks ∷ [])
      ≡ but_last now ++ row_of (length (last_row [] now)) count (row_before now) picks ∷ []
  row_seated count picks in_use =
      let before : last_row (last_row [] front) (but_last rows) ≡ last_row [] (but_last now) =
      sym (last-append [] front (but_last rows)) ∙ ap (last_row []) front_is in
      let row : row_of (length (last_row [] rows)) count (last_row (last_row [] front) (but_last rows)) picks ≡ row_of (length (last_row [] now)) count (row_before now) picks =
      ap₂ (λ row b. row_of (length row) count b picks) last_is before
      ∙ row_behind (length (last_row [] now)) count (but_last now) picks in_use in
      sym (append_assoc front (but_last rows) _) ∙ ap₂ (λ xs row. xs ++ row ∷ []) front_is row
    where
      row_behind : (m count : ℕ) (rows : List (List (Option Pick))) (picks : List Pick) → count ≤ m
          → row_of m count (last_row [] rows) picks ≡ row_of m count (last_row (idle_row m) rows) picks
      row_behind m count [] picks in_use = row_behind_none m count picks in_use
      row_behind m count (row ∷ rows) picks in_use = refl
