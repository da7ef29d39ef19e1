-- Levels go by slot, and a slot's own one is found where those before it end.
use Rattle.std.proofs.Common.{◌≡◌, ◌≢◌, ◌∙◌, ℕ, zero, suc, ◌+◌, ◌-◌, ◌<◌, ◌≤◌, Bool, true, false, cond, nat_lt, get_or, map, Option, None, Some, List, [], ◌∷◌, length, find, refl, sym, ap, arith}
use Rattle.std.specs.Prelude.{◌==◌, ◌||◌, not}
use Rattle.std.specs.List.{range_with_len, slice_get}
use Rattle.std.specs.List.Sorted.{IsNonDecreasingBy}
use Rattle.std.proofs.lemmas.Bool.{lt-ltb, ne_eqb}
use Rattle.std.proofs.lemmas.Bool.Decides.{nat_tests}
use Rattle.std.proofs.lemmas.List.{length-map}
use Rattle.std.proofs.lemmas.List.FromFn.{get_or-map-range_with_len, length-range_with_len}
use Rattle.std.proofs.lemmas.List.Kept.{IsNonDecreasingBy-filter}
use Rattle.pf_scenario.specs.Scenario.{Plan}
use Rattle.pf_run.specs.Record.{Slot}
use Rattle.pf_tally.specs.declared.level.Level.{Level}
use Rattle.pf_tally.specs.Levels.{is_as_before, level_in, levels_of}
use Rattle.pf_trace.specs.Runs.{level_when}

-- Use: the levels of a run rise by slot.
pub levels_rise : (s : Plan) (r : List Slot) (from to : ℕ) → IsNonDecreasingBy (λ l. l.slot) (levels_of s r from to)
levels_rise s r from to =
    let f = level_in s r in
    let k = to - from in
    let all = map f (range_with_len from k) in
    let long : length all ≡ k = length-map (range_with_len from k) f ∙ length-range_with_len from k in
    IsNonDecreasingBy-filter (λ l. l.slot) (λ level. level.slot == from || not (is_as_before s r level)) all
    (λ i j d order within.
    omega (
      arith,
      order,
      ap (λ l. l.slot) (get_or-map-range_with_len f from k i (from + i) d (omega (arith, order, within, long)) refl),
      ap (λ l. l.slot) (get_or-map-range_with_len f from k j (from + j) d (omega (arith, within, long)) refl),
    ))

none_found : (t : ℕ) (xs : List Level) → ((i : ℕ) (d : Level) → i < length xs → (get_or xs i d).slot ≢ t) → find (λ l. l.slot == t) xs ≡ None
none_found t [] others = refl
none_found t (x ∷ xs) others =
    ap (λ b. cond b (Some x) (find (λ l. l.slot == t) xs)) (ne_eqb x.slot t (others 0 x (omega arith)))
    ∙ none_found t xs (λ i d within. others (suc i) d (omega (arith, within)))

-- Use: the level of slot t, where the first k levels are those before it.
pub level_found : (t : ℕ) (xs : List Level) (k : ℕ) → IsNonDecreasingBy (λ l. l.slot) xs → k ≤ length xs →
    ((i : ℕ) (d : Level) → i < k → nat_lt (get_or xs i d).slot t ≡ true) → ((i : ℕ) (d : Level) → k ≤ i → i < length xs → nat_lt (get_or xs i d).slot t ≡ false) →
    find (λ l. l.slot == t) xs ≡ level_when t (slice_get xs k)
level_found t [] zero rise within before behind = refl
level_found t [] (suc k) rise within before behind = absurd (omega (arith, within))
level_found t (x ∷ xs) zero rise within before behind = by_test (x.slot == t) refl
  where
    by_test : (b : Bool) → x.slot == t ≡ b → cond (x.slot == t) (Some x) (find (λ l. l.slot == t) xs) ≡ cond (x.slot == t) (Some x) None
    by_test true is = ap (λ b. cond b (Some x) (find (λ l. l.slot == t) xs)) is ∙ sym (ap (λ b. cond b (Some x) None) is)
    by_test false is =
        ap (λ b. cond b (Some x) (find (λ l. l.slot == t) xs)) is
        ∙ none_found t xs (λ i d less. grind (arith, nat_tests, is, behind 0 x (omega arith) (omega arith), rise 0 (suc i) d (omega arith) (omega (arith, less))))
        ∙ sym (ap (λ b. cond b (Some x) None) is)
level_found t (x ∷ xs) (suc k) rise within before behind =
    ap (λ b. cond b (Some x) (find (λ l. l.slot == t) xs)) (differs (before 0 x (omega arith)))
    ∙ level_found t xs k (λ i j d order less. rise (suc i) (suc j) d (omega (arith, order)) (omega (arith, less))) (omega (arith, within))
    (λ i d less. before (suc i) d (omega (arith, less))) (λ i d more less. behind (suc i) d (omega (arith, more)) (omega (arith, less)))
  where
    differs : nat_lt x.slot t ≡ true → (x.slot == t) ≡ false
    differs less = grind (arith, nat_tests, less)
