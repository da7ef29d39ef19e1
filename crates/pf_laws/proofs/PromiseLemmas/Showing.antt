-- A task missed no window exactly where its greatest lag is below a quantum.
use Rattle.std.proofs.Common.{◌≡◌, ◌↔◌, ℕ, zero, suc, ◌+◌, ◌-◌, ◌*◌, ◌<◌, ◌≤◌, true, List, [], ◌∷◌, length, map, get_or, filter, Contains, arith, refl, ap, sym, subst, ⊎_elim, ℤ, pos, ◌<ℤ◌, ◌≤ℤ◌}
use Rattle.std.specs.List.{range_with_len}
use Rattle.std.proofs.Math.Nat.{mul-le-mul_left}
use Rattle.std.proofs.lemmas.Bool.{cases_lt}
use Rattle.std.proofs.lemmas.Int.{ints, clamps}
use Rattle.std.proofs.lemmas.List.Elements.{All-map, Contains-get_or}
use Rattle.std.proofs.lemmas.List.FromFn.{length-range_with_len, get_or-range_with_len}
use Rattle.pf_window.specs.Window.{deadline_of}
use Rattle.pf_window.proofs.Quotients.{ceil_is}
use Rattle.pf_scenario.proofs.Sorting.{All-sorted_by}
use Rattle.pf_scenario.specs.Scenario.{Plan}
use Rattle.pf_scenario.specs.Edit.{IsScenario}
use Rattle.pf_scenario.specs.declared.event.Numbered.{Numbered}
use Rattle.pf_run.specs.Record.{Slot, done}
use Rattle.pf_run.specs.Inside.{Joined}
use Rattle.pf_run.specs.Run.{events_in_force, IsRun}
use Rattle.pf_run.proofs.Containing.{contains_head, from_filter}
use Rattle.pf_weight.specs.Share.{Share, IsShare}
use Rattle.pf_tally.specs.Clock.{clock_of}
use Rattle.pf_tally.specs.Lags.{task_cmp, by_task}
use Rattle.pf_tally.specs.Figures.{extremes_upto, scaled_at, last_slot, processors_in, figures_of_task, figures_of}
use Rattle.pf_tally.specs.Misses.{due_of, is_missed, miss_of, misses_of_task}
use Rattle.pf_tally.specs.declared.figures.Figures.{Figures}
use Rattle.pf_tally.specs.declared.miss.Miss.{Miss}
use Rattle.pf_laws.proofs.PromiseLemmas.Joining.{all_joined}
use Rattle.pf_laws.proofs.PromiseLemmas.Ran.{IsMiss, miss_is}
use Rattle.pf_laws.proofs.PromiseLemmas.Choosing.{shift_slot}
use Rattle.pf_laws.specs.Promise.Stay.{lag_after}
use Rattle.pf_laws.specs.Promise.LagLaws.{MissesShowInLags}
use Rattle.pf_laws.proofs.PromiseLemmas.Stays.{share_of_joined, is_inside}
use Rattle.pf_laws.proofs.PromiseLemmas.Below.{none_missed, lag_below}
use Rattle.pf_laws.proofs.PromiseLemmas.Stops.{clock_due}

-- the greatest of some values is below a bound where each is, and no value is above it
greatest_below : (f : ℕ → ℤ) (a k : ℕ) (bound : ℤ) → ((i : ℕ) → i ≤ k → f (a + i) <ℤ bound) → (extremes_upto f a k).greatest <ℤ bound
greatest_below f a zero bound each = subst (λ n. f n <ℤ bound) (let z : a + 0 ≡ a = omega arith in z) (each 0 (omega arith))
greatest_below f a (suc k) bound each =
    let before = greatest_below f a k bound (λ i le. each i (omega (arith, le))) in
    let last = each (suc k) (omega arith) in
    omega (arith, ints, clamps, before, last)

greatest_most : (f : ℕ → ℤ) (a k i : ℕ) → i ≤ k → f (a + i) ≤ℤ (extremes_upto f a k).greatest
greatest_most f a zero i le =
    let here : f (a + i) ≡ f a = ap f (omega (arith, le)) in omega (arith, ints, here)
greatest_most f a (suc k) i le = ⊎_elim
    (λ (less : i < suc k).
    let before = greatest_most f a k i (omega (arith, less)) in omega (arith, ints, clamps, before))
    (λ (ge : suc k ≤ i).
    let here : f (a + i) ≡ f (a + suc k) = ap f (omega (arith, le, ge)) in omega (arith, ints, clamps, here))
    (cases_lt i (suc k))

-- a clock that has come to the deadline of a subtask, which hasn't run, is worth a quantum more than there were
deadline_worth : (w : Share) (i clock had : ℕ) → IsShare w → deadline_of w (suc i) ≤ clock → had ≤ i →
    w.period * had + w.period ≤ w.cost * clock
unfolding deadline_of
deadline_worth w i clock had share over late =
    let it = ceil_is (suc i * w.period) w.cost share.some in
    let worth : w.cost * deadline_of w (suc i) ≤ w.cost * clock = mul-le-mul_left w.cost over in
    let few : w.period * had ≤ w.period * i = mul-le-mul_left w.period late in
    let whole : suc i * w.period ≡ w.period * i + w.period = grind arith in
    let turned : w.cost * deadline_of w (suc i) ≡ deadline_of w (suc i) * w.cost = grind arith in
    omega (arith, it.enough, worth, few, whole, turned)

module _ (s : Plan) (scenario : IsScenario s) (r : List Slot) (run : IsRun s (length r) r) where
  abbrev end_now : List Numbered
  end_now = events_in_force s r (length r)

  module _ (j : Joined) (at : Contains (all_joined s r) j) where
    abbrev most : ℤ
    most = (extremes_upto (lag_after s r j) j.slot (last_slot end_now j (length r) - j.slot)).greatest

    -- a miss shows where its window ends
    shown : (i : ℕ) → IsMiss s scenario r run j i → pos j.weight.period ≤ℤ most
    shown i miss =
        let due = due_of r end_now j (suc i) in
        let from : j.slot ≤ due = omega (arith, shift_slot r end_now j (suc i)) in
        let upto = is_inside end_now j (length r) due miss.within miss.after in
        let worth =
        deadline_worth j.weight i (clock_of r end_now j due) (done r j.task due) (share_of_joined s scenario r j at)
        (clock_due s scenario r run j at (suc i) (omega (arith, miss.late))) miss.late in
        let here : lag_after s r j (j.slot + (due - j.slot)) ≡ lag_after s r j due = ap (lag_after s r j) (omega (arith, from)) in
        let seen = greatest_most (lag_after s r j) j.slot (last_slot end_now j (length r) - j.slot) (due - j.slot) (omega (arith, upto)) in
        omega (arith, ints, worth, here, seen)

    some_shown : (subs : List ℕ) → filter (is_missed r end_now j) (range_with_len 1 (length r)) ≡ subs → most <ℤ pos j.weight.period →
        subs ≡ []
    some_shown [] is low = refl
    some_shown (i ∷ subs) is low =
        let first : Contains (filter (is_missed r end_now j) (range_with_len 1 (length r))) i =
        subst (λ zs. Contains zs i) (sym is) (contains_head i subs) in
        let it = from_filter (is_missed r end_now j) (range_with_len 1 (length r)) i first in
        absurd (missed i (number i it.0) it.1)
      where
        number : (k : ℕ) → Contains (range_with_len 1 (length r)) k → 1 ≤ k
        number k among =
            omega (
              arith,
              among.2,
              get_or-range_with_len 1 (length r) among.0 k (omega (arith, among.1, length-range_with_len 1 (length r))),
            )

        missed : (k : ℕ) → 1 ≤ k → is_missed r end_now j k ≡ true → ⊥
        missed zero some is_so = absurd (omega (arith, some))
        missed (suc k) some is_so = omega (arith, ints, low, shown k (miss_is s scenario r run j k is_so))

    pub shows : (length (misses_of_task r end_now j) ≡ 0) ↔ (most <ℤ pos j.weight.period)
    shows = (
      λ none.
          greatest_below (lag_after s r j) j.slot (last_slot end_now j (length r) - j.slot) (pos j.weight.period)
          (λ i le. lag_below s scenario r run j at (j.slot + i)
          (λ k miss due. none_missed s scenario r run j at (empty (misses_of_task r end_now j) none) k miss)
          (record { from = omega arith; upto = omega (arith, le) })),
      λ low.
          ap (λ subs. length (map (miss_of r end_now j) subs))
          (some_shown (filter (is_missed r end_now j) (range_with_len 1 (length r))) refl low),
    ) where
      empty : (ms : List Miss) → length ms ≡ 0 → ms ≡ []
      empty [] none = refl
      empty (m ∷ ms) none = absurd (omega (arith, none))

pub misses_show_in_lags : MissesShowInLags
unfolding figures_of
misses_show_in_lags s n r rows scenario run =
    let run' : IsRun s (length r) r = subst (λ m. IsRun s m r) (sym run.slots) run in
    let xs = events_in_force s r (length r) in
    All-map (λ (f : Figures). (f.missed ≡ 0) ↔ (f.lag.greatest <ℤ pos f.period))
    (λ (j : Joined). figures_of_task r (processors_in rows j.task) xs j) (by_task (all_joined s r))
    (All-sorted_by (λ (j : Joined). (length (misses_of_task r xs j) ≡ 0) ↔ ((extremes_upto (scaled_at r xs j) j.slot (last_slot xs j (length r) - j.slot)).greatest <ℤ pos j.weight.period))
    task_cmp (all_joined s r)
    (λ k d lt. shows s scenario r run' (get_or (all_joined s r) k d) (Contains-get_or (all_joined s r) k d lt)))
