-- The blocks of a chart, one after another.
use Rattle.std.proofs.Common.{◌≡◌, ℕ, zero, suc, ◌+◌, ◌-◌, ◌*◌, ◌<◌, ◌≤◌, min, nat_le, Bool, true, false, Option, Some, List, [], ◌++◌, length, get_or, refl, sym, ap, ap₂, ◌∙◌, arith}
use Rattle.std.specs.Prelude.{if◌then◌else◌}
use Rattle.std.specs.Int.{div_ceil}
use Rattle.std.specs.List.{flat_map, range_with_len, slice_get}
use Rattle.std.proofs.lemmas.List.{get_or_default}
use Rattle.std.proofs.lemmas.List.Concat.{flat_map-cons}
use Rattle.std.proofs.lemmas.List.FromFn.{get_or-map-range_with_len}
use Rattle.pf_order.specs.declared.pick.Pick.{Pick}
use Rattle.pf_tally.proofs.Noting.{got_at}
use Rattle.pf_desk.specs.Desk.{Seen}
use Rattle.pf_courses.specs.Listing.{Listing, count_in, counts_of}
use Rattle.pf_chart.specs.Labels.{Labels, block_length}
use Rattle.pf_chart.specs.Chart.{block_of, block_text, blocks_text, processor_cell}

flat_map_shift : {X : Type 0} (f g : ℕ → List X) (a b n : ℕ) → ((k : ℕ) → k < n → f (a + k) ≡ g (b + k)) → flat_map f (range_with_len a n) ≡ flat_map g (range_with_len b n)
flat_map_shift f g a b zero same = refl
flat_map_shift f g a b (suc n) same =
    let first = ap f (let z : a ≡ a + 0 = omega arith in z) ∙ same 0 (omega arith) ∙ ap g (let z : b + 0 ≡ b = omega arith in z) in
    let rest = flat_map_shift f g (a + 1) (b + 1) n (λ k below.
    ap f (let z : a + 1 + k ≡ a + suc k = omega arith in z) ∙ same (suc k) (omega arith) ∙ ap g (let z : b + suc k ≡ b + 1 + k = omega arith in z)) in
    flat_map-cons f a (range_with_len (a + 1) n) ∙ ap₂ (λ xs ys. xs ++ ys) first rest ∙ sym (flat_map-cons g b (range_with_len (b + 1) n))

-- a block has 60 slots, or 50
abbrev size_of : Bool → ℕ
size_of wide = if wide then 60 else 50

no_further : (wide : Bool) (from : ℕ) → from + size_of wide * 0 ≡ from
no_further true from = omega arith
no_further false from = omega arith

this_long : (wide : Bool) (from to end : ℕ) → end ≡ from + min (to - from) (size_of wide) → min (size_of wide) (to - from) ≡ end - from
this_long true from to end of_end = omega arith
this_long false from to end of_end = omega arith

one_more : (wide : Bool) (from to end : ℕ) → from < to → end ≡ from + min (to - from) (size_of wide)
    → div_ceil (to - from) (size_of wide) ≡ suc (div_ceil (to - end) (size_of wide))
one_more true from to end some of_end = omega arith
one_more false from to end some of_end = omega arith

further : (wide : Bool) (from to end k : ℕ) → end ≡ from + min (to - from) (size_of wide) → k < div_ceil (to - end) (size_of wide)
    → from + size_of wide * (1 + k) ≡ end + size_of wide * (0 + k)
further true from to end k of_end below = omega arith
further false from to end k of_end below = omega arith

module _ (seen : Seen) (labels : Labels) (listed : List Listing) (from to : ℕ) where
  abbrev wide : Bool
  wide = nat_le labels.places 20

  abbrev size : ℕ
  size = size_of wide

  -- Use: one block, and those after it.
  pub blocks_next : (end : ℕ) → from < to → end ≡ from + min (to - from) (block_length labels.places) →
      blocks_text seen labels listed from to
      ≡ block_of seen labels listed from (range_with_len from (end - from)) ++ blocks_text seen labels listed end to
  blocks_next end some of_end =
      let f : ℕ → List ℕ = λ k. block_text seen labels listed size to (from + size * k) in
      let g : ℕ → List ℕ = λ k. block_text seen labels listed size to (end + size * k) in
      let n = div_ceil (to - end) size in
      let first : f 0 ≡ block_of seen labels listed from (range_with_len from (end - from)) =
      ap (block_text seen labels listed size to) (no_further wide from)
      ∙ ap (λ m. block_of seen labels listed from (range_with_len from m)) (this_long wide from to end of_end) in
      let rest : flat_map f (range_with_len 1 n) ≡ flat_map g (range_with_len 0 n) =
      flat_map_shift f g 1 0 n (λ k below. ap (block_text seen labels listed size to) (further wide from to end k of_end below)) in
      ap (λ n. flat_map f (range_with_len 0 n)) (one_more wide from to end some of_end) ∙ flat_map-cons f 0 (range_with_len 1 n)
      ∙ ap₂ (λ xs ys. xs ++ ys) first rest

-- Use: a block has a line.
pub block_some : (seen : Seen) (labels : Labels) (listed : List Listing) (a : ℕ) (slots text : List ℕ) → text ≡ block_of seen labels listed a slots
    → 1 ≤ length text
block_some seen labels listed a slots text is = omega (arith, ap length is)

-- a cell of a processor, by the counts and the row of its slot
pub cell_is : (seen : Seen) (listed : List Listing) (counts : List ℕ) (p t count cell d : ℕ) (row : List (Option Pick)) → t < length seen.rows → counts ≡ counts_of seen.state.plan seen.state.now seen.rows → count ≡ get_or counts t d →
    Some row ≡ slice_get seen.rows t → cell ≡ processor_cell listed count row p → cell ≡ processor_cell listed (count_in seen.state.plan seen.state.now t) (get_or seen.rows t []) p
cell_is seen listed counts p t count cell d row within of_counts of_count of_row is =
    is
    ∙ ap₂ (λ count row. processor_cell listed count row p)
    (of_count ∙ ap (λ cs. get_or cs t d) of_counts ∙ get_or-map-range_with_len (count_in seen.state.plan seen.state.now) 0 (length seen.rows) t t d within (omega arith))
    (sym (get_or_default seen.rows t [] row within ∙ got_at seen.rows t row of_row))
