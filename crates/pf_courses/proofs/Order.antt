-- Later subtasks have later windows, and later stops begin and end later.
use Rattle.std.proofs.Common.{◌≡◌, ℕ, zero, suc, ◌+◌, ◌-◌, ◌<◌, ◌≤◌, Bool, true, false, nat_lt, cond, List, [], ◌∷◌, length, map, get_or, All, refl, ap, ◌∙◌, ⊎_elim, arith}
use Rattle.std.specs.List.{range_with_len, slice_get}
use Rattle.std.specs.List.Sorted.{IsNonDecreasing, IsNonDecreasingBy, IsPartitionedBy}
use Rattle.std.specs.Option.{option_map_or}
use Rattle.std.proofs.lemmas.Bool.{cases_lt, lt-ltb, ltb-true}
use Rattle.std.proofs.lemmas.List.{length-map}
use Rattle.std.proofs.lemmas.List.FromFn.{length-range_with_len, get_or-map-range_with_len}
use Rattle.std.proofs.lemmas.List.Kept.{IsNonDecreasingBy-filter}
use Rattle.std.proofs.lemmas.List.Sums.{sum_by-le-sum_by}
use Rattle.pf_weight.specs.Share.{IsShare}
use Rattle.pf_window.specs.Window.{release_of}
use Rattle.pf_run.specs.Inside.{Joined}
use Rattle.pf_tally.specs.Clock.{Stop}
use Rattle.pf_tally.specs.Held.{AreSuccessive, stop_of}
use Rattle.pf_tally.specs.Late.{hold_of, due_at}
use Rattle.pf_tally.specs.declared.held.Held.{Held}
use Rattle.pf_tally.proofs.Chains.{StopsRise, chain_stops}
use Rattle.pf_tally.proofs.Missing.{counted_rises, dues_rise}
use Rattle.pf_tally.proofs.Windows.{releases_rise}
use Rattle.pf_courses.specs.Built.{quantum_with, window_by, windows_by}
use Rattle.pf_courses.specs.Course.{is_drawn}
use Rattle.pf_courses.specs.Windows.{ran_below}
use Rattle.pf_courses.specs.declared.window.Window.{Window}

-- one more at the front
module _ {X : Type 0} (n : X → ℕ) where
  rises_cons : (x : X) (xs : List X) → All (λ y. n x ≤ n y) xs → IsNonDecreasingBy n xs → IsNonDecreasingBy n (x ∷ xs)
  rises_cons x xs above up zero zero d le within = omega arith
  rises_cons x xs above up zero (suc j) d le within = above j d (omega arith)
  rises_cons x xs above up (suc i) zero d le within = absurd (omega arith)
  rises_cons x xs above up (suc i) (suc j) d le within = up i j d (omega arith) (omega arith)

  -- what a rising function gives of numbers one after another
  range_rises : (f : ℕ → X) (a k : ℕ) → ((i m : ℕ) → i ≤ m → n (f i) ≤ n (f m)) → IsNonDecreasingBy n (map f (range_with_len a k))
  range_rises f a k up i j d le within =
      let long : length (map f (range_with_len a k)) ≡ k = length-map (range_with_len a k) f ∙ length-range_with_len a k in
      let first = ap n (get_or-map-range_with_len f a k i (a + i) d (omega (arith, long)) refl) in
      let second = ap n (get_or-map-range_with_len f a k j (a + j) d (omega (arith, long)) refl) in
      omega (arith, first, second, up (a + i) (a + j) (omega arith))

-- stops
stops_above : (from : ℕ) (ss : List Stop) → StopsRise from ss → All (λ s. from ≤ s.start) ss
stops_above from [] rise i d within = absurd (omega arith)
stops_above from (s ∷ ss) rise zero d within = rise.0
stops_above from (s ∷ ss) rise (suc i) d within =
    let first : from ≤ s.start = rise.0 in
    let second : s.start ≤ s.end = rise.1 in
    let rest : s.end ≤ (get_or ss i d).start = stops_above s.end ss rise.2 i d (omega arith) in
    omega arith

stops_ending : (from : ℕ) (ss : List Stop) → StopsRise from ss → All (λ s. from ≤ s.end) ss
stops_ending from [] rise i d within = absurd (omega arith)
stops_ending from (s ∷ ss) rise zero d within = let first : from ≤ s.start = rise.0 in let second : s.start ≤ s.end = rise.1 in omega arith
stops_ending from (s ∷ ss) rise (suc i) d within =
    let first : from ≤ s.start = rise.0 in
    let second : s.start ≤ s.end = rise.1 in
    let rest : s.end ≤ (get_or ss i d).end = stops_ending s.end ss rise.2 i d (omega arith) in
    omega arith

starts_rise : (from : ℕ) (ss : List Stop) → StopsRise from ss → IsNonDecreasingBy (λ s. s.start) ss
starts_rise from [] rise = λ i j d le within. absurd (omega arith)
starts_rise from (s ∷ ss) rise =
    rises_cons (λ (s : Stop). s.start) s ss (λ i d within. let second : s.start ≤ s.end = rise.1 in let rest : s.end ≤ (get_or ss i d).start = stops_above s.end ss rise.2 i d within in omega arith)
    (starts_rise s.end ss rise.2)

ends_rise : (from : ℕ) (ss : List Stop) → StopsRise from ss → IsNonDecreasingBy (λ s. s.end) ss
ends_rise from [] rise = λ i j d le within. absurd (omega arith)
ends_rise from (s ∷ ss) rise = rises_cons (λ (s : Stop). s.end) s ss (stops_ending s.end ss rise.2) (ends_rise s.end ss rise.2)

-- Use: the stops of a chain of delays.
pub chain_starts : (j : Joined) (held : List Held) → IsShare j.weight → AreSuccessive 0 j.slot held → IsNonDecreasingBy (λ s. s.start) (map (stop_of j.weight) held)
chain_starts j held share chain = starts_rise (release_of j.weight 0 + j.slot) (map (stop_of j.weight) held) (chain_stops j.weight 0 j.slot held share chain)

pub chain_ends : (j : Joined) (held : List Held) → IsShare j.weight → AreSuccessive 0 j.slot held → IsNonDecreasingBy (λ s. s.end) (map (stop_of j.weight) held)
chain_ends j held share chain = ends_rise (release_of j.weight 0 + j.slot) (map (stop_of j.weight) held) (chain_stops j.weight 0 j.slot held share chain)

-- a quantum below a slot
abbrev is_below : ℕ → List ℕ → List ℕ → ℕ → Bool
is_below t ran on k = option_map_or (λ q. nat_lt q.slot t) (quantum_with (slice_get ran k) (slice_get on k)) false

record IsBelow (t : ℕ) (ran on : List ℕ) (k : ℕ) : Type 0 where
  in_ran : k < length ran
  in_on : k < length on
  below : get_or ran k 0 < t

below_is : (t : ℕ) (ran on : List ℕ) (k : ℕ) → is_below t ran on k ≡ true → IsBelow t ran on k
below_is t [] on k e = cc
below_is t (q ∷ ran) [] zero e = cc
below_is t (q ∷ ran) [] (suc k) e = let rest = below_is t ran [] k e in record { in_ran = omega (arith, rest.in_ran); in_on = absurd (omega (arith, rest.in_on)); below = rest.below }
below_is t (q ∷ ran) (p ∷ on) zero e = record { in_ran = omega arith; in_on = omega arith; below = ltb-true q t e }
below_is t (q ∷ ran) (p ∷ on) (suc k) e = let rest = below_is t ran on k e in record { in_ran = omega (arith, rest.in_ran); in_on = omega (arith, rest.in_on); below = rest.below }

is_below_from : (t : ℕ) (ran on : List ℕ) (k : ℕ) → IsBelow t ran on k → is_below t ran on k ≡ true
is_below_from t [] on k is = absurd (omega (arith, is.in_ran))
is_below_from t (q ∷ ran) [] k is = absurd (omega (arith, is.in_on))
is_below_from t (q ∷ ran) (p ∷ on) zero is = lt-ltb q t is.below
is_below_from t (q ∷ ran) (p ∷ on) (suc k) is = is_below_from t ran on k (record { in_ran = omega (arith, is.in_ran); in_on = omega (arith, is.in_on); below = is.below })

-- an earlier one is below it, too
below_before : (t : ℕ) (ran on : List ℕ) (i k : ℕ) → IsNonDecreasing ran → i ≤ k → is_below t ran on k ≡ true → is_below t ran on i ≡ true
below_before t ran on i k up le e =
    let it = below_is t ran on k e in
    is_below_from t ran on i (record {
      in_ran = omega (arith, it.in_ran);
      in_on = omega (arith, it.in_on);
      below = omega (arith, it.below, up i k 0 le it.in_ran);
    })

module _ (j : Joined) (ran on : List ℕ) (held : List Held) (end n : ℕ) where
  pub releases_are : IsShare j.weight → IsNonDecreasingBy (λ w. w.release) (windows_by j ran on held end n)
  releases_are share =
      IsNonDecreasingBy-filter (λ (w : Window). w.release) (is_drawn end) (map (window_by j ran on held end) (range_with_len 1 n))
      (range_rises (λ (w : Window). w.release) (window_by j ran on held end) 1 n
      (λ i m le. omega (arith, releases_rise j.weight i m share le, sum_by-le-sum_by (hold_of i) (hold_of m) held (counted_rises i m le))))

  pub deadlines_are : IsShare j.weight → IsNonDecreasingBy (λ w. w.deadline) (windows_by j ran on held end n)
  deadlines_are share =
      IsNonDecreasingBy-filter (λ (w : Window). w.deadline) (is_drawn end) (map (window_by j ran on held end) (range_with_len 1 n))
      (range_rises (λ (w : Window). w.deadline) (window_by j ran on held end) 1 n
      (λ i m le. ⊎_elim
      (λ less. let up : due_at j held i < due_at j held m = dues_rise j held i m share less in omega arith)
      (λ same. let e : due_at j held i ≡ due_at j held m = ap (due_at j held) (let z : i ≡ m = omega arith in z) in omega arith)
      (cases_lt i m)))

  pub quanta_are : IsNonDecreasing ran → (t : ℕ) → IsPartitionedBy (ran_below t) (windows_by j ran on held end n)
  quanta_are up t i k d le within e =
      let rank : Window → ℕ = λ w. cond (ran_below t w) 0 1 in
      let later : IsNonDecreasingBy rank (windows_by j ran on held end n) =
      IsNonDecreasingBy-filter rank (is_drawn end) (map (window_by j ran on held end) (range_with_len 1 n))
      (range_rises rank (window_by j ran on held end) 1 n (λ i m le. ranks (is_below t ran on (i - 1)) (is_below t ran on (m - 1)) (below_before t ran on (i - 1) (m - 1) up (omega arith)))) in
      from_ranks (ran_below t (get_or (windows_by j ran on held end n) i d)) (ran_below t (get_or (windows_by j ran on held end n) k d)) (later i k d le within) e
    where
      ranks : (a b : Bool) → (b ≡ true → a ≡ true) → cond a 0 1 ≤ cond b 0 1
      ranks true b first = omega arith
      ranks false true first = absurd (let f : false ≡ true = first refl in cc)
      ranks false false first = omega arith

      from_ranks : (a b : Bool) → cond a 0 1 ≤ cond b 0 1 → b ≡ true → a ≡ true
      from_ranks true b le e = refl
      from_ranks false true le e = absurd (omega arith)
      from_ranks false false le e = e
