-- The range of a lag, from the points at which quanta begin and end.
use Rattle.std.proofs.Common.{◌≡◌, ◌≢◌, ℕ, zero, suc, ◌+◌, ◌-◌, ◌*◌, ◌<◌, ◌≤◌, ◌⊎◌, Bool, true, false, nat_lt, cond, List, [], ◌∷◌, length, map, get_or, count_by, sum_by, All, AllPairs, inl, inr, ⊎_elim, refl, sym, ap, ap₂, ◌∙◌, arith}
use Rattle.std.specs.Prelude.{ℤ, ◌≤ℤ◌}
use Rattle.std.specs.Int.{int_min, int_max}
use Rattle.std.specs.List.Sorted.{IsNonDecreasing}
use Rattle.std.proofs.Math.Nat.{mul-le-mul_left}
use Rattle.std.proofs.lemmas.Bool.{cases_lt, cases_eq, cond-true, cond-false, lt-ltb, le-ltb}
use Rattle.std.proofs.lemmas.Int.{ints, clamps}
use Rattle.std.proofs.lemmas.List.{get_or_default}
use Rattle.std.proofs.lemmas.List.Elements.{All-head, All-tail}
use Rattle.std.proofs.lemmas.List.Folds.{fold-map}
use Rattle.std.proofs.lemmas.List.Sums.{sum_by-cons}
use Rattle.pf_weight.specs.Share.{IsShare}
use Rattle.pf_window.specs.Window.{release_of}
use Rattle.pf_run.specs.Inside.{Joined}
use Rattle.pf_tally.specs.Clock.{is_stopped}
use Rattle.pf_tally.specs.Held.{stop_of, part_of, stopped_below, AreSuccessive}
use Rattle.pf_tally.specs.Figures.{with_value, extremes_upto}
use Rattle.pf_tally.specs.Ranges.{lag_by}
use Rattle.pf_tally.specs.declared.extremes.Extremes.{Extremes}
use Rattle.pf_tally.specs.declared.held.Held.{Held}
use Rattle.pf_tally.proofs.Chains.{chain_stops, parts_more, runs_and_stands}
use Rattle.pf_tally.proofs.Holding.{count_from_cut}

abbrev pub both : ℤ → ℤ → Extremes
both least greatest = record { least = least; greatest = greatest }

-- those of one value
unfoldable pub alone : ℤ → Extremes
alone x = record { least = x; greatest = x }

-- a value as it is kept
pub alone_kept : (range : Extremes) (x y z : ℤ) → range ≡ both x x → x ≡ y → y ≡ z → range ≡ alone z
unfolding alone
alone_kept range x y z is e f = is ∙ ap alone (e ∙ f)

pub with_kept : (after range : Extremes) (x y z : ℤ) → after ≡ with_value range x → x ≡ y → y ≡ z → after ≡ with_value range z
with_kept after range x y z is e f = is ∙ ap (with_value range) (e ∙ f)

twice : (e : Extremes) (x : ℤ) → with_value (with_value e x) x ≡ with_value e x
twice e x = ap₂ both (let low : int_min (int_min e.least x) x ≡ int_min e.least x = omega (arith, ints, clamps) in low)
    (let high : int_max (int_max e.greatest x) x ≡ int_max e.greatest x = omega (arith, ints, clamps) in high)

-- a value between the least and one more says nothing
passed : (e : Extremes) (x y : ℤ) → e.least ≤ℤ x → x ≤ℤ y → with_value (with_value e x) y ≡ with_value e y
passed e x y above up = ap₂ both (let low : int_min (int_min e.least x) y ≡ int_min e.least y = omega (arith, ints, clamps) in low)
    (let high : int_max (int_max e.greatest x) y ≡ int_max e.greatest y = omega (arith, ints, clamps) in high)

-- the last value is among those whose extremes are known
among : (f : ℕ → ℤ) (a k : ℕ) → with_value (extremes_upto f a k) (f (a + k)) ≡ extremes_upto f a k
among f a zero =
    let here : f (a + 0) ≡ f a = ap f (let z : a + 0 ≡ a = omega arith in z) in
    ap₂ both (let low : int_min (f a) (f (a + 0)) ≡ f a = omega (arith, ints, clamps, here) in low)
    (let high : int_max (f a) (f (a + 0)) ≡ f a = omega (arith, ints, clamps, here) in high)
among f a (suc k) = twice (extremes_upto f a k) (f (a + suc k))

least_among : (f : ℕ → ℤ) (a k : ℕ) → (extremes_upto f a k).least ≤ℤ f (a + k)
least_among f a k =
    let same : int_min (extremes_upto f a k).least (f (a + k)) ≡ (extremes_upto f a k).least = ap (λ e. e.least) (among f a k) in
    omega (arith, ints, clamps, same)

record Rises (f : ℕ → ℤ) (a k d : ℕ) : Type 0 where
  range : extremes_upto f a (k + d) ≡ with_value (extremes_upto f a k) (f (a + k + d))
  above : (extremes_upto f a k).least ≤ℤ f (a + k + d)

-- where f doesn't fall, its last value alone is new
rises_to : (f : ℕ → ℤ) (a k d : ℕ) → ((t : ℕ) → a + k ≤ t → t < a + k + d → f t ≤ℤ f (t + 1)) → Rises f a k d
rises_to f a k zero up =
    let here : a + k ≡ a + k + 0 = omega arith in
    let low = least_among f a k in
    record {
      range = ap (extremes_upto f a) (let z : k + 0 ≡ k = omega arith in z) ∙ sym (among f a k) ∙ ap (λ n. with_value (extremes_upto f a k) (f n)) here;
      above = omega (arith, ints, low, ap f here);
    }
rises_to f a k (suc d) up =
    let before = rises_to f a k d (λ t low high. up t low (omega arith)) in
    let step : f (a + k + d) ≤ℤ f (a + k + d + 1) = up (a + k + d) (omega arith) (omega arith) in
    let next : a + k + d + 1 ≡ a + k + suc d = omega arith in
    let upper : f (a + k + d) ≤ℤ f (a + k + suc d) = omega (arith, ints, step, ap f next) in
    record {
      range =
          ap (extremes_upto f a) (let z : k + suc d ≡ suc (k + d) = omega arith in z)
          ∙ ap₂ (λ e n. with_value e (f n)) before.range (let z : a + suc (k + d) ≡ a + k + suc d = omega arith in z)
          ∙ passed (extremes_upto f a k) (f (a + k + d)) (f (a + k + suc d)) before.above upper;
      above = omega (arith, ints, before.above, upper);
    }

-- the same, from p to q
pub range_to : (f : ℕ → ℤ) (a p q : ℕ) → a ≤ p → p ≤ q → ((t : ℕ) → p ≤ t → t < q → f t ≤ℤ f (t + 1)) →
    extremes_upto f a (q - a) ≡ with_value (extremes_upto f a (p - a)) (f q)
range_to f a p q low high up =
    let all = rises_to f a (p - a) (q - p) (λ t first last. up t (omega arith) (omega arith)) in
    ap (extremes_upto f a) (let z : q - a ≡ p - a + (q - p) = omega arith in z)
    ∙ all.range
    ∙ ap (λ n. with_value (extremes_upto f a (p - a)) (f n)) (let z : a + (p - a) + (q - p) ≡ q = omega arith in z)

-- one value more
pub range_next : (f : ℕ → ℤ) (a q : ℕ) → a ≤ q → extremes_upto f a (q + 1 - a) ≡ with_value (extremes_upto f a (q - a)) (f (q + 1))
range_next f a q low =
    ap (extremes_upto f a) (let z : q + 1 - a ≡ suc (q - a) = omega arith in z)
    ∙ ap (λ n. with_value (extremes_upto f a (q - a)) (f n)) (let z : a + suc (q - a) ≡ q + 1 = omega arith in z)

-- of slots that rise, k are below slot k, and k + 1 are not above it
pub counted_before : (ran : List ℕ) (k : ℕ) → AllPairs (λ a b. a < b) ran → k < length ran → k ≡ count_by (λ q. nat_lt q (get_or ran k 0)) ran
counted_before ran k apart within =
    sym (count_from_cut (λ q. nat_lt q (get_or ran k 0)) ran k (omega arith)
    (λ i d before. let h : get_or ran i d < get_or ran k d = apart i k d before within in lt-ltb (get_or ran i d) (get_or ran k 0) (omega (arith, h, get_or_default ran k d 0 within)))
    (λ i d above below. le-ltb (get_or ran i d) (get_or ran k 0) (not_above ran k i d apart above below)))
  where
    not_above : (ran : List ℕ) (k i d : ℕ) → AllPairs (λ a b. a < b) ran → k ≤ i → i < length ran → get_or ran k 0 ≤ get_or ran i d
    not_above ran k i d apart above below = ⊎_elim
        (λ less. let h : get_or ran k d < get_or ran i d = apart k i d less below in omega (arith, h, get_or_default ran k d 0 (omega arith)))
        (λ over. let here : i ≡ k = omega arith in omega (arith, ap (λ i. get_or ran i d) here, get_or_default ran k d 0 (omega arith)))
        (cases_lt k i)

pub counted_with : (ran : List ℕ) (k : ℕ) → AllPairs (λ a b. a < b) ran → k < length ran → k + 1 ≡ count_by (λ q. nat_lt q (get_or ran k 0 + 1)) ran
counted_with ran k apart within =
    sym (count_from_cut (λ q. nat_lt q (get_or ran k 0 + 1)) ran (k + 1) (omega arith)
    (λ i d before. lt-ltb (get_or ran i d) (get_or ran k 0 + 1) (not_below i d before))
    (λ i d above below. let h : get_or ran k d < get_or ran i d = apart k i d (omega arith) below in le-ltb (get_or ran i d) (get_or ran k 0 + 1) (omega (arith, h, get_or_default ran k d 0 within))))
  where
    not_below : (i d : ℕ) → i < k + 1 → get_or ran i d < get_or ran k 0 + 1
    not_below i d before = ⊎_elim
        (λ less. let h : get_or ran i d < get_or ran k d = apart i k d less within in omega (arith, h, get_or_default ran k d 0 within))
        (λ over. let here : i ≡ k = omega arith in omega (arith, ap (λ i. get_or ran i d) here, get_or_default ran k d 0 within))
        (cases_lt i k)

-- no slot counts that isn't among them
none_more : (t : ℕ) (ran : List ℕ) → All (λ q. q ≢ t) ran → count_by (λ q. nat_lt q (t + 1)) ran ≡ count_by (λ q. nat_lt q t) ran
none_more t [] other = refl
none_more t (q ∷ ran) other =
    let this : q ≢ t = All-head (λ q. q ≢ t) q ran other in
    let rest = none_more t ran (All-tail (λ q. q ≢ t) q ran other) in
    ⊎_elim
    (λ below. omega (
      arith,
      sum_by-cons (λ q. cond (nat_lt q (t + 1)) 1 0) q ran,
      sum_by-cons (λ q. cond (nat_lt q t) 1 0) q ran,
      rest,
      cond-true {A = ℕ} (nat_lt q t) 1 0 (lt-ltb q t below),
      cond-true {A = ℕ} (nat_lt q (t + 1)) 1 0 (lt-ltb q (t + 1) (omega arith)),
    ))
    (λ over. ⊎_elim
    (λ same. absurd (this same))
    (λ differ. omega (
      arith,
      sum_by-cons (λ q. cond (nat_lt q (t + 1)) 1 0) q ran,
      sum_by-cons (λ q. cond (nat_lt q t) 1 0) q ran,
      rest,
      cond-false {A = ℕ} (nat_lt q t) 1 0 (le-ltb q t over),
      cond-false {A = ℕ} (nat_lt q (t + 1)) 1 0 (le-ltb q (t + 1) (after q t over differ)),
    ))
    (cases_eq q t))
    (cases_lt q t)
  where
    after : (q t : ℕ) → t ≤ q → q ≢ t → t + 1 ≤ q
    after q t over differ = ⊎_elim (λ less. absurd (differ (omega arith))) (λ more. more) (cases_lt q (t + 1))

-- what is known once the first k quanta were looked at: the range up to the point `seen`, which is after them
pub record IsSeen (j : Joined) (held : List Held) (ran : List ℕ) (last k seen : ℕ) (range : Extremes) : Type 0 where
  pub low : j.slot ≤ seen
  pub high : seen ≤ last
  pub known : range ≡ extremes_upto (lag_by j ran held) j.slot (seen - j.slot)
  pub past : (i d : ℕ) → i < k → (get_or ran i d < seen) ⊎ (last ≤ get_or ran i d)

module _ (j : Joined) (held : List Held) (share : IsShare j.weight) (chain : AreSuccessive 0 j.slot held) where
  parts_are : (n : ℕ) → sum_by (part_of n) (map (stop_of j.weight) held) ≡ stopped_below n j.weight held
  parts_are n = fold-map (λ a s. a + part_of n s) (stop_of j.weight) 0 held

  -- the clock of a task doesn't run ahead of the slots
  pub stops_apart : (t : ℕ) → j.slot ≤ t → stopped_below t j.weight held ≤ t - j.slot
  stops_apart t joined =
      let up = chain_stops j.weight 0 j.slot held share chain in
      let all = runs_and_stands j.slot (t - j.slot) (release_of j.weight 0 + j.slot) (map (stop_of j.weight) held) up (omega arith) in
      let same = ap (λ n. sum_by (part_of n) (map (stop_of j.weight) held)) (let z : j.slot + (t - j.slot) ≡ t = omega arith in z) in
      omega (arith, all, same, parts_are t)

  -- nor backwards
  clock_rises : (t : ℕ) → j.slot ≤ t → t - j.slot - stopped_below t j.weight held ≤ t + 1 - j.slot - stopped_below (t + 1) j.weight held
  clock_rises t joined =
      let up = chain_stops j.weight 0 j.slot held share chain in
      let more = parts_more t (release_of j.weight 0 + j.slot) (map (stop_of j.weight) held) up in
      let one = at_most_one (is_stopped (map (stop_of j.weight) held) t) in
      omega (arith, more, one, parts_are t, parts_are (t + 1), stops_apart t joined)
    where
      at_most_one : (b : Bool) → cond b 1 0 ≤ 1
      at_most_one true = omega arith
      at_most_one false = omega arith

  -- the lag of a task doesn't fall in a slot in which it doesn't run
  pub lag_rises : (ran : List ℕ) (t : ℕ) → j.slot ≤ t → All (λ q. q ≢ t) ran → lag_by j ran held t ≤ℤ lag_by j ran held (t + 1)
  lag_rises ran t joined idle =
      let owed : j.weight.cost * (t - j.slot - stopped_below t j.weight held) ≤ j.weight.cost * (t + 1 - j.slot - stopped_below (t + 1) j.weight held) =
      mul-le-mul_left j.weight.cost (clock_rises t joined) in
      let had = ap (λ n. j.weight.period * n) (none_more t ran idle) in
      omega (arith, ints, owed, had)

  pub seen_none : (ran : List ℕ) (last start : ℕ) (range : Extremes) → j.slot ≤ last → start ≡ j.slot → range ≡ alone (lag_by j ran held start) → IsSeen j held ran last 0 start range
  unfolding alone
  seen_none ran last start range joined at is = record {
    low = omega arith;
    high = omega arith;
    known = is ∙ ap (λ t. alone (lag_by j ran held t)) at ∙ ap (extremes_upto (lag_by j ran held) j.slot) (let z : 0 ≡ start - j.slot = omega arith in z);
    past = λ i d below. absurd (omega arith);
  }

  -- no quantum lies between the point and the next one
  idle_to : (ran : List ℕ) (last k seen q : ℕ) (range : Extremes) → IsSeen j held ran last k seen range → q ≤ last → ((i d : ℕ) → k ≤ i → i < length ran → q ≤ get_or ran i d) →
      (t : ℕ) → seen ≤ t → t < q → All (λ p. p ≢ t) ran
  idle_to ran last k seen q range known within later t low high i d below same = ⊎_elim
      (λ first. ⊎_elim (λ less. absurd (omega arith)) (λ over. absurd (omega arith)) (known.past i d first))
      (λ second. let next : q ≤ get_or ran i d = later i d second below in absurd (omega arith))
      (cases_lt i k)

  pub seen_in : (ran : List ℕ) (last k seen seen' : ℕ) (range mid after : Extremes) → IsNonDecreasing ran → IsSeen j held ran last k seen range → k < length ran →
      seen ≤ get_or ran k 0 → get_or ran k 0 < last → seen' ≡ get_or ran k 0 + 1 → mid ≡ with_value range (lag_by j ran held (get_or ran k 0)) →
      after ≡ with_value mid (lag_by j ran held (get_or ran k 0 + 1)) → IsSeen j held ran last (k + 1) seen' after
  seen_in ran last k seen seen' range mid after rising known within low high next of_mid of_after =
      let f = lag_by j ran held in
      let q = get_or ran k 0 in
      let start : j.slot ≤ seen = known.low in
      let later : (i d : ℕ) → k ≤ i → i < length ran → q ≤ get_or ran i d =
      λ i d first below. omega (arith, rising k i d first below, get_or_default ran k 0 d within) in
      record {
        low = omega arith;
        high = omega arith;
        known =
            of_after
            ∙ ap (λ e. with_value e (f (q + 1)))
            (of_mid
            ∙ ap (λ e. with_value e (f q)) known.known
            ∙ sym (range_to f j.slot seen q start low (λ t first then. lag_rises ran t (omega arith) (idle_to ran last k seen q range known (omega arith) later t first then))))
            ∙ sym (range_next f j.slot q (omega arith))
            ∙ ap (λ n. extremes_upto f j.slot (n - j.slot)) (sym next);
        past = λ i d below. ⊎_elim
            (λ first. ⊎_elim (λ less. inl (omega arith)) (λ over. inr over) (known.past i d first))
            (λ second. let here : i ≡ k = omega arith in inl (omega (arith, get_or_default ran k 0 d within, ap (λ i. get_or ran i d) here)))
            (cases_lt i k);
      }

  pub seen_out : (ran : List ℕ) (last k seen : ℕ) (range : Extremes) → IsSeen j held ran last k seen range → k < length ran → (get_or ran k 0 < seen) ⊎ (last ≤ get_or ran k 0) →
      IsSeen j held ran last (k + 1) seen range
  seen_out ran last k seen range known within out = record {
    low = known.low;
    high = known.high;
    known = known.known;
    past = λ i d below. ⊎_elim
        (λ first. known.past i d first)
        (λ second. let here : i ≡ k = omega arith in
        let same : get_or ran i d ≡ get_or ran k 0 = ap (λ i. get_or ran i d) here ∙ get_or_default ran k d 0 within in
        ⊎_elim (λ less. inl (omega arith)) (λ over. inr (omega arith)) out)
        (cases_lt i k);
  }

  pub seen_all : (ran : List ℕ) (last k seen : ℕ) (range after : Extremes) → IsSeen j held ran last k seen range → length ran ≤ k → after ≡ with_value range (lag_by j ran held last) →
      after ≡ extremes_upto (lag_by j ran held) j.slot (last - j.slot)
  seen_all ran last k seen range after known over is =
      let f = lag_by j ran held in
      let start : j.slot ≤ seen = known.low in
      is
      ∙ ap (λ e. with_value e (f last)) known.known
      ∙ sym (range_to f j.slot seen last start known.high
      (λ t first then. lag_rises ran t (omega arith) (idle_to ran last k seen last range known (omega arith) (λ i d above below. absurd (omega arith)) t first then)))
