-- Rows of one width: where they end.
use Rattle.std.proofs.Common.{◌≡◌, ℕ, zero, suc, ◌+◌, ◌*◌, ◌<◌, ◌≤◌, List, [], ◌∷◌, ◌++◌, length, get_or, ap, sym, ◌∙◌, refl, arith}
use Rattle.std.specs.List.{slice_range}
use Rattle.std.proofs.Math.Nat.{mul-le-mul_right}
use Rattle.std.proofs.lemmas.List.{take_all}
use Rattle.pf_place.specs.Blocks.{AreCutAt, all_rows_of}
use Rattle.pf_place.specs.Packed.{even_ends}
use Rattle.pf_place.proofs.Blocks.{ends_from_cut, start_from_cut, row_from_cut, row_bounds}

pub length-even_ends : (from n count : ℕ) → length (even_ends from n count) ≡ count
length-even_ends from n zero = refl
length-even_ends from n (suc count) = ap suc (length-even_ends (from + n) n count)

-- where the k-th of them begins
pub even_start : (from n count k : ℕ) → k ≤ count → get_or (from ∷ even_ends from n count) k 0 ≡ from + k * n
even_start from n count zero l = omega arith
even_start from n zero (suc k) l = absurd (omega arith)
even_start from n (suc count) (suc k) l = even_start (from + n) n count k (omega arith) ∙ grind arith

-- one row more
pub even_more : (from n count : ℕ) → even_ends from n (count + 1) ≡ even_ends from n count ++ (from + (count * n + n)) ∷ []
even_more from n zero = ap (λ end. end ∷ []) (omega arith)
even_more from n (suc count) =
    ap (even_ends from n) (let e : suc count + 1 ≡ suc (count + 1) = omega arith in e)
    ∙ ap (λ ends. (from + n) ∷ ends) (even_more (from + n) n count ∙ ap (λ end. even_ends (from + n) n count ++ end ∷ []) (grind arith))

-- Rows of one width, cut from their places.
module _ {X : Type 0} (rows : List (List X)) (n count : ℕ) (places : List X) (cut : AreCutAt rows (even_ends 0 n count) places) where
  pub count_cut : length rows ≡ count
  count_cut = sym (ends_from_cut rows (even_ends 0 n count) places cut) ∙ length-even_ends 0 n count

  starts : (k : ℕ) → k ≤ count → k * n ≡ get_or (0 ∷ even_ends 0 n count) k 0
  starts k l = omega (arith, even_start 0 n count k l)

  ends : (k : ℕ) → k < count → k * n + n ≡ get_or (0 ∷ even_ends 0 n count) (k + 1) 0
  ends k l = (let e : k * n + n ≡ (k + 1) * n = grind arith in e) ∙ starts (k + 1) (omega arith)

  -- the k-th row lies within the places
  pub row_within : (k : ℕ) → k < count → k * n + n ≤ length places
  row_within k l =
      (row_bounds rows (even_ends 0 n count) places k (k * n) (k * n + n) cut (omega (arith, count_cut)) (starts k (omega arith)) (ends k l)).1

  pub row_cut : (k : ℕ) (d : List X) → k < count → slice_range places (k * n) (k * n + n) ≡ get_or rows k d
  row_cut k d l =
      row_from_cut rows (even_ends 0 n count) places k (k * n) (k * n + n) d cut (omega (arith, count_cut)) (starts k (omega arith)) (ends k l)

  -- all places are those of the rows
  pub count_times : count * n ≡ length places
  count_times =
      starts count (omega arith)
      ∙ start_from_cut rows (even_ends 0 n count) places count cut (omega (arith, count_cut))
      ∙ ap (λ rows. length (all_rows_of rows)) (take_all count rows (omega (arith, count_cut)))
      ∙ ap length (sym cut.places_are)

-- where the next row ends, of so many
pub end_within : (k count n : ℕ) → k < count → k * n + n ≤ count * n
end_within k count n l =
    let times = mul-le-mul_right n (let next : k + 1 ≤ count = omega arith in next) in
    let next : (k + 1) * n ≡ k * n + n = grind arith in
    omega (arith, times, next)
