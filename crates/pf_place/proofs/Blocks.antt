-- Rows that lie one after another: what a row more, a row less, and another last row make of the places and the ends.
use Rattle.std.proofs.Common.{◌≡◌, ℕ, zero, suc, ◌+◌, ◌-◌, ◌<◌, ◌≤◌, Option, List, [], ◌∷◌, ◌++◌, length, get_or, take, drop, ap, ap₂, sym, subst, ◌∙◌, refl, arith, add-one, append_assoc, length-append, drop-cons}
use Rattle.std.specs.List.{slice_range}
use Rattle.std.proofs.Math.ListN.{drop_of_length-le}
use Rattle.std.proofs.Math.Seq.{take-append_seam, drop-append_seam}
use Rattle.std.proofs.lemmas.Grind.{flat_map-append}
use Rattle.std.proofs.lemmas.List.{append-nil, take_all, take_more, take-append-drop, get_or-take, length-take-le}
use Rattle.pf_place.specs.Occupancy.{row_of}
use Rattle.pf_place.proofs.Seats.{length-row_of}
use Rattle.pf_order.specs.declared.pick.Pick.{Pick}
use Rattle.pf_place.specs.Blocks.{all_rows_of, ends_of, rows_between, AreCutAt}
use Rattle.pf_place.specs.RunRows.{last_row, but_last}

module _ {X : Type 0} where
  joined-append : (xs ys : List (List X)) → all_rows_of (xs ++ ys) ≡ all_rows_of xs ++ all_rows_of ys
  joined-append xs ys = flat_map-append (λ row. row) xs ys

  joined-one : (xs : List (List X)) (row : List X) → all_rows_of (xs ++ row ∷ []) ≡ all_rows_of xs ++ row
  joined-one xs row = joined-append xs (row ∷ []) ∙ ap (λ end. all_rows_of xs ++ end) (append-nil row)

  pub length-ends_of : (from : ℕ) (rows : List (List X)) → length (ends_of from rows) ≡ length rows
  length-ends_of from [] = refl
  length-ends_of from (row ∷ rows) = ap suc (length-ends_of (from + length row) rows)

  ends_of-one : (from : ℕ) (rows : List (List X)) (row : List X)
      → ends_of from (rows ++ row ∷ []) ≡ ends_of from rows ++ (from + length (all_rows_of rows) + length row) ∷ []
  ends_of-one from [] row = ap (λ end. end ∷ []) (omega arith)
  ends_of-one from (first ∷ rows) row =
      ap (λ ends. (from + length first) ∷ ends) (ends_of-one (from + length first) rows row)
      ∙ ap (λ end. (from + length first) ∷ ends_of (from + length first) rows ++ end ∷ [])
      (omega (arith, length-append first (all_rows_of rows)))

  -- a piece between two others
  piece : (front middle back : List X) → slice_range (front ++ (middle ++ back)) (length front) (length front + length middle) ≡ middle
  piece front middle back =
      let long : length front + length middle - length front ≡ length middle = omega arith in
      ap₂ (λ n xs. take n xs) long (drop-append_seam front (middle ++ back)) ∙ take-append_seam middle back

  cut_again : (front : List X) (rows : List (List X)) → rows_between (length front) (ends_of (length front) rows) (front ++ all_rows_of rows) ≡ rows
  cut_again front [] = refl
  cut_again front (row ∷ rows) =
      ap₂ (λ first others. first ∷ others) (piece front row (all_rows_of rows))
      (ap₂ (λ n places. rows_between n (ends_of n rows) places) (sym (length-append front row)) (sym (append_assoc front row (all_rows_of rows)))
      ∙ cut_again (front ++ row) rows)

  -- the rows are read off the places and the ends
  pub rows_from_cut : (rows : List (List X)) (ends : List ℕ) (places : List X) → AreCutAt rows ends places → rows_between 0 ends places ≡ rows
  rows_from_cut rows ends places cut = rw (cut.ends_are, cut.places_are) (cut_again [] rows)

  pub cut_from_cut : (rows : List (List X)) (ends : List ℕ) (places : List X) → AreCutAt rows ends places → AreCutAt (rows_between 0 ends places) ends places
  cut_from_cut rows ends places cut = subst (λ rs. AreCutAt rs ends places) (sym (rows_from_cut rows ends places cut)) cut

  starts : (from : ℕ) (rows : List (List X)) (k : ℕ) → k ≤ length rows → get_or (from ∷ ends_of from rows) k 0 ≡ from + length (all_rows_of (take k rows))
  starts from rows zero l = omega arith
  starts from [] (suc k) l = absurd (omega arith)
  starts from (row ∷ rows) (suc k) l =
      starts (from + length row) rows k (omega arith)
      ∙ omega (arith, length-append row (all_rows_of (take k rows)))

  -- where the k-th row begins
  pub start_from_cut : (rows : List (List X)) (ends : List ℕ) (places : List X) (k : ℕ) → AreCutAt rows ends places → k ≤ length rows
      → get_or (0 ∷ ends) k 0 ≡ length (all_rows_of (take k rows))
  start_from_cut rows ends places k cut l = rw cut.ends_are (starts 0 rows k l ∙ omega arith)

  -- a front of the rows, with one row more
  joined-more : (rows : List (List X)) (k : ℕ) (d : List X) → k < length rows → all_rows_of (take (k + 1) rows) ≡ all_rows_of (take k rows) ++ get_or rows k d
  joined-more rows k d l = ap all_rows_of (take_more rows k d l) ∙ joined-one (take k rows) (get_or rows k d)

  -- the k-th row begins where it ends less its length, and stands in between
  pub row_from_cut : (rows : List (List X)) (ends : List ℕ) (places : List X) (k start end : ℕ) (d : List X) → AreCutAt rows ends places → k < length rows
      → start ≡ get_or (0 ∷ ends) k 0 → end ≡ get_or (0 ∷ ends) (k + 1) 0 → slice_range places start end ≡ get_or rows k d
  row_from_cut rows ends places k start end d cut l start_is end_is =
      let from : start ≡ length (all_rows_of (take k rows)) = start_is ∙ start_from_cut rows ends places k cut (omega arith) in
      let to : end ≡ length (all_rows_of (take k rows)) + length (get_or rows k d) =
      end_is ∙ start_from_cut rows ends places (k + 1) cut (omega arith) ∙ ap length (joined-more rows k d l) ∙ length-append (all_rows_of (take k rows)) (get_or rows k d) in
      let all : places ≡ all_rows_of (take k rows) ++ (get_or rows k d ++ all_rows_of (drop (k + 1) rows)) =
      cut.places_are ∙ ap all_rows_of (sym (take-append-drop k rows) ∙ ap (λ back. take k rows ++ back) (drop-cons rows k d l ∙ ap (λ n. get_or rows k d ∷ drop n rows) (sym (add-one k))))
      ∙ joined-append (take k rows) (get_or rows k d ∷ drop (k + 1) rows) in
      rw (from, to, all) (piece (all_rows_of (take k rows)) (get_or rows k d) (all_rows_of (drop (k + 1) rows)))

  -- a row begins at or before its end, and ends within the places
  pub row_bounds : (rows : List (List X)) (ends : List ℕ) (places : List X) (k start end : ℕ) → AreCutAt rows ends places → k < length rows
      → start ≡ get_or (0 ∷ ends) k 0 → end ≡ get_or (0 ∷ ends) (k + 1) 0 → (start ≤ end) × (end ≤ length places)
  row_bounds rows ends places k start end cut l start_is end_is =
      let from : start ≡ length (all_rows_of (take k rows)) = start_is ∙ start_from_cut rows ends places k cut (omega arith) in
      let to : end ≡ length (all_rows_of (take k rows)) + length (get_or rows k []) =
      end_is ∙ start_from_cut rows ends places (k + 1) cut (omega arith) ∙ ap length (joined-more rows k [] l) ∙ length-append (all_rows_of (take k rows)) (get_or rows k []) in
      let all : length places ≡ end + length (all_rows_of (drop (k + 1) rows)) =
      ap length (cut.places_are ∙ ap all_rows_of (sym (take-append-drop (k + 1) rows)) ∙ joined-append (take (k + 1) rows) (drop (k + 1) rows))
      ∙ length-append (all_rows_of (take (k + 1) rows)) (all_rows_of (drop (k + 1) rows))
      ∙ omega (arith, end_is, start_from_cut rows ends places (k + 1) cut (omega arith)) in
      (omega arith, omega arith)

  -- as many ends as rows
  pub ends_from_cut : (rows : List (List X)) (ends : List ℕ) (places : List X) → AreCutAt rows ends places → length ends ≡ length rows
  ends_from_cut rows ends places cut = ap length cut.ends_are ∙ length-ends_of 0 rows

  -- one row more
  pub cut_more : (rows : List (List X)) (ends : List ℕ) (places row : List X) → AreCutAt rows ends places
      → AreCutAt (rows ++ row ∷ []) (ends ++ (length places + length row) ∷ []) (places ++ row)
  cut_more rows ends places row cut = record {
    ends_are = rw (cut.ends_are, cut.places_are) (sym (ends_of-one 0 rows row ∙ ap (λ n. ends_of 0 rows ++ n ∷ []) (omega arith)));
    places_are = rw cut.places_are (sym (joined-one rows row));
  }

  -- the rows in front of the last one
  pub cut_less : (rows : List (List X)) (ends : List ℕ) (places : List X) (row : List X) → AreCutAt (rows ++ row ∷ []) ends places
      → AreCutAt rows (take (length rows) ends) (take (length (all_rows_of rows)) places)
  cut_less rows ends places row cut = record {
    ends_are =
        ap (take (length rows)) (cut.ends_are ∙ ends_of-one 0 rows row)
        ∙ subst (λ n. take n (ends_of 0 rows ++ (0 + length (all_rows_of rows) + length row) ∷ []) ≡ ends_of 0 rows) (length-ends_of 0 rows) (take-append_seam (ends_of 0 rows) _);
    places_are = ap (take (length (all_rows_of rows))) (cut.places_are ∙ joined-one rows row) ∙ take-append_seam (all_rows_of rows) row;
  }

  -- another last row of as many places
  pub cut_last : (rows : List (List X)) (ends : List ℕ) (places : List X) (row other : List X) → AreCutAt (rows ++ row ∷ []) ends places
      → length other ≡ length row → AreCutAt (rows ++ other ∷ []) ends (take (length (all_rows_of rows)) places ++ other)
  cut_last rows ends places row other cut long = record {
    ends_are = cut.ends_are ∙ ends_of-one 0 rows row ∙ ap (λ n. ends_of 0 rows ++ (0 + length (all_rows_of rows) + n) ∷ []) (sym long) ∙ sym (ends_of-one 0 rows other);
    places_are =
        ap (λ front. front ++ other) (ap (take (length (all_rows_of rows))) (cut.places_are ∙ joined-one rows row) ∙ take-append_seam (all_rows_of rows) row)
        ∙ sym (joined-one rows other);
  }

-- the last of some rows, as it is read
last_read : (first : List (Option Pick)) (rows : List (List (Option Pick))) (d : List (Option Pick)) → get_or (first ∷ rows) (length rows) d ≡ last_row first rows
last_read first [] d = refl
last_read first (second ∷ rows) d = last_read second rows d

-- some rows are those before the last, and the last
pub rows_from_last : (rows : List (List (Option Pick))) → 0 < length rows → rows ≡ but_last rows ++ last_row [] rows ∷ []
rows_from_last [] l = absurd (omega arith)
rows_from_last (first ∷ rows) l =
    let all : length (first ∷ rows) ≡ length rows + 1 = omega arith in
    let front : length (first ∷ rows) - 1 ≡ length rows = omega arith in
    sym (take_all (length rows + 1) (first ∷ rows) (omega arith))
    ∙ take_more (first ∷ rows) (length rows) [] (omega arith)
    ∙ ap₂ (λ n row. take n (first ∷ rows) ++ row ∷ []) (sym front) (last_read first rows [])

-- the last of some rows, read from its place
pub last_is_read : (a d : List (Option Pick)) (rows : List (List (Option Pick))) → 0 < length rows → last_row a rows ≡ get_or rows (length rows - 1) d
last_is_read a d [] l = absurd (omega arith)
last_is_read a d (first ∷ rows) l =
    let at : length (first ∷ rows) - 1 ≡ length rows = omega arith in
    rw at (sym (last_read first rows d))

-- the last of some rows does not depend on the row before them
pub last_of_some : (a b : List (Option Pick)) (rows : List (List (Option Pick))) → 0 < length rows → last_row a rows ≡ last_row b rows
last_of_some a b [] l = absurd (omega arith)
last_of_some a b (row ∷ rows) l = refl

-- the last of some rows is that of the back of them
pub last_behind : (before : List (Option Pick)) (rows : List (List (Option Pick))) (row : List (Option Pick)) → last_row before (rows ++ row ∷ []) ≡ row
last_behind before [] row = refl
last_behind before (first ∷ rows) row = last_behind first rows row

pub but_last_behind : (rows : List (List (Option Pick))) (row : List (Option Pick)) → but_last (rows ++ row ∷ []) ≡ rows
but_last_behind rows row =
    let n : length (rows ++ row ∷ []) - 1 ≡ length rows = omega (arith, length-append rows (row ∷ [])) in
    ap (λ n. take n (rows ++ row ∷ [])) n ∙ take-append_seam rows (row ∷ [])

-- what was written over a whole list, as it is written back
pub written_back : {X : Type 0} (old new : List X) (n : ℕ) → n ≡ length old → length new ≡ length old → take n (new ++ drop (length new) old) ≡ new
written_back old new n is long =
    ap₂ (λ k back. take k (new ++ back)) (is ∙ sym long) (drop_of_length-le old (omega arith)) ∙ take-append_seam new []

-- What the last row is to the ends and the places.
module _ (rows : List (List (Option Pick))) (ends : List ℕ) (places : List (Option Pick)) (cut : AreCutAt rows ends places) (some : 0 < length rows)
    (last start : ℕ) (last_is : last ≡ length ends - 1) (start_is : start ≡ get_or (0 ∷ ends) last 0) where
  at_last : last ≡ length rows - 1
  at_last = last_is ∙ ap (λ n. n - 1) (ends_from_cut rows ends places cut)

  begins : start ≡ length (all_rows_of (but_last rows))
  begins = start_is ∙ start_from_cut rows ends places last cut (omega (arith, at_last)) ∙ ap (λ n. length (all_rows_of (take n rows))) at_last

  as_last : AreCutAt (but_last rows ++ last_row [] rows ∷ []) ends places
  as_last = subst (λ rs. AreCutAt rs ends places) (rows_from_last rows some) cut

  length-but_last : length (but_last rows) ≡ last
  length-but_last = omega (arith, at_last, ap length (rows_from_last rows some), length-append (but_last rows) (last_row [] rows ∷ []))

  -- the last row reaches from its start to the end
  pub last_is_rest : start + length (last_row [] rows) ≡ length places
  last_is_rest = omega (arith, begins, ap length (as_last.places_are ∙ joined-one (but_last rows) (last_row [] rows)), length-append (all_rows_of (but_last rows)) (last_row [] rows))

  -- without the last row
  pub cut_popped : AreCutAt (but_last rows) (take last ends) (take start places)
  cut_popped =
      rw (← length-but_last, begins) (cut_less (but_last rows) ends places (last_row [] rows) as_last)

  -- with another last row
  pub cut_other : (other : List (Option Pick)) → length other ≡ length (last_row [] rows) → AreCutAt (but_last rows ++ other ∷ []) ends (take start places ++ other)
  cut_other other long =
      rw begins (cut_last (but_last rows) ends places (last_row [] rows) other as_last long)

  -- the row before the last one
  row_before : (above : List (Option Pick)) (before : ℕ) → 0 < last → before ≡ get_or (0 ∷ ends) (last - 1) 0
      → slice_range places before start ≡ last_row above (but_last rows)
  row_before above before l before_is =
      let next : start ≡ get_or (0 ∷ ends) (last - 1 + 1) 0 = start_is ∙ ap (λ n. get_or (0 ∷ ends) n 0) (omega arith) in
      row_from_cut rows ends places (last - 1) before start above cut (omega (arith, at_last)) before_is next
      ∙ sym (get_or-take last rows (last - 1) above (omega (arith, length-take-le last rows (omega (arith, at_last)))))
      ∙ ap₂ (λ m n. get_or (take m rows) n above) at_last (ap (λ n. n - 1) (sym length-but_last))
      ∙ sym (last_is_read above above (but_last rows) (omega (arith, length-but_last)))

  pub before_start : (before : ℕ) → 0 < last → before ≡ get_or (0 ∷ ends) (last - 1) 0 → before ≤ start
  before_start before l before_is =
      let next : start ≡ get_or (0 ∷ ends) (last - 1 + 1) 0 = start_is ∙ ap (λ n. get_or (0 ∷ ends) n 0) (omega arith) in
      (row_bounds rows ends places (last - 1) before start cut (omega (arith, at_last)) before_is next).0

  -- where the last row is the only one, it begins at 0
  pub only_row : last ≡ 0 → length places ≡ length (last_row [] rows)
  only_row none =
      let zero_start : start ≡ 0 = start_is ∙ ap (λ n. get_or (0 ∷ ends) n 0) none in
      omega (arith, last_is_rest)

  -- the picks are placed after the row above, where the last row is the only one
  pub cut_seated_first : (count : ℕ) (above : List (Option Pick)) (picks : List Pick) (new : List (Option Pick)) → last ≡ 0
      → new ≡ row_of (length places) count above picks
      → AreCutAt (but_last rows ++ row_of (length (last_row [] rows)) count (last_row above (but_last rows)) picks ∷ []) ends new
  cut_seated_first count above picks new none is =
      let zero_start : start ≡ 0 = start_is ∙ ap (λ n. get_or (0 ∷ ends) n 0) none in
      let row = row_of (length (last_row [] rows)) count (last_row above (but_last rows)) picks in
      let first : but_last rows ≡ [] = ap (λ n. take n rows) (sym at_last ∙ none) in
      let same : new ≡ take start places ++ row =
      is ∙ ap₂ (λ m before. row_of m count before picks) (only_row none) (ap (last_row above) (sym first))
      ∙ ap (λ n. take n places ++ row) (sym zero_start) in
      rw same (cut_other row (length-row_of (length (last_row [] rows)) count (last_row above (but_last rows)) picks))

  -- or else after the row before it
  pub cut_seated : (count before : ℕ) (above : List (Option Pick)) (picks : List Pick) (new : List (Option Pick)) → 0 < last
      → before ≡ get_or (0 ∷ ends) (last - 1) 0
      → new ≡ take start places ++ row_of (length places - start) count (slice_range places before start) picks
      → AreCutAt (but_last rows ++ row_of (length (last_row [] rows)) count (last_row above (but_last rows)) picks ∷ []) ends new
  cut_seated count before above picks new l before_is is =
      let row = row_of (length (last_row [] rows)) count (last_row above (but_last rows)) picks in
      let width : length places - start ≡ length (last_row [] rows) = omega (arith, last_is_rest) in
      let same : new ≡ take start places ++ row =
      is ∙ ap₂ (λ m before. take start places ++ row_of m count before picks) width (row_before above before l before_is) in
      rw same (cut_other row (length-row_of (length (last_row [] rows)) count (last_row above (but_last rows)) picks))
