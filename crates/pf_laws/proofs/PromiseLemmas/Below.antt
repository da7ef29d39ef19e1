-- A task is behind its fair share by less than a quantum as long as it missed no window.
use Rattle.std.proofs.Common.{◌≡◌, ℕ, suc, ◌+◌, ◌-◌, ◌*◌, ◌<◌, ◌≤◌, true, not, nat_le, Option, None, Some, List, [], length, filter, find, count_by, Contains, arith, refl, ap, sym, subst, ⊎_elim, pos, ◌<ℤ◌}
use Rattle.std.specs.List.{range_with_len}
use Rattle.std.specs.Option.{option_map_or}
use Rattle.std.proofs.Math.Nat.{lt_of_mul-lt-mul_right}
use Rattle.std.proofs.lemmas.Bool.{cases_lt, le-leb, leb-true}
use Rattle.std.proofs.lemmas.Int.{ints}
use Rattle.pf_lemmas.proofs.Ranges.{in_range}
use Rattle.pf_weight.specs.Share.{Share, IsShare}
use Rattle.pf_window.specs.Window.{deadline_of}
use Rattle.pf_window.proofs.Quotients.{ceil_is}
use Rattle.pf_scenario.specs.Event.{slot_of, is_leave_of}
use Rattle.pf_scenario.specs.Scenario.{Plan}
use Rattle.pf_scenario.specs.Edit.{IsScenario}
use Rattle.pf_scenario.specs.declared.event.Numbered.{Numbered}
use Rattle.pf_run.specs.Record.{Slot, done}
use Rattle.pf_run.specs.Inside.{Joined}
use Rattle.pf_run.specs.Run.{events_in_force, IsRun}
use Rattle.pf_run.proofs.Containing.{contains_none, in_filter}
use Rattle.pf_tally.specs.Clock.{stops_behind, is_stopped, clock_of}
use Rattle.pf_tally.specs.Misses.{due_of, leaves_after, is_missed, miss_of, misses_of_task}
use Rattle.pf_tally.specs.declared.miss.Miss.{Miss}
use Rattle.pf_tally.proofs.Windows.{deadline_late}
use Rattle.pf_laws.proofs.PromiseLemmas.Shifts.{done-rises}
use Rattle.pf_laws.proofs.PromiseLemmas.Joining.{all_joined}
use Rattle.pf_laws.proofs.PromiseLemmas.Ran.{IsMiss, is_miss}
use Rattle.pf_tally.proofs.Contents.{in_map}
use Rattle.pf_laws.specs.Promise.Stay.{IsStay, lag_after}
use Rattle.pf_laws.specs.Promise.LagLaws.{LagsAreBelow}
use Rattle.pf_laws.proofs.PromiseLemmas.Clocks.{clock_before}
use Rattle.pf_laws.proofs.PromiseLemmas.Stays.{events_rise, share_of_joined, IsInside, inside_is}

-- where the clock is worth a quantum more than i, the deadline of subtask i + 1 is over
pub deadline_passed : (w : Share) (i clock : ℕ) → IsShare w → w.period * i + w.period ≤ w.cost * clock → deadline_of w (suc i) ≤ clock
unfolding deadline_of
deadline_passed w i clock share worth =
    let it = ceil_is (suc i * w.period) w.cost share.some in
    let whole : suc i * w.period ≡ w.period * i + w.period = grind arith in
    let next : deadline_of w (suc i) < clock + 1 = lt_of_mul-lt-mul_right w.cost (grind (arith, it.least, worth, whole)) in
    omega (arith, next)

-- the clock starts with the join
pub clock_begins : (r : List Slot) (xs : List Numbered) (j : Joined) (t : ℕ) → t ≡ j.slot → clock_of r xs j t ≡ 0
unfolding clock_of
clock_begins r xs j t is =
    let none : t - j.slot ≡ 0 = omega (arith, is) in
    ap (λ k. count_by (λ u. not (is_stopped (stops_behind r j [] xs) u)) (range_with_len j.slot k)) none

-- a task that left no sooner than t left no sooner than a slot before
pub leaves_sooner : (xs : List Numbered) (j : Joined) (u t : ℕ) → u ≤ t → leaves_after xs j t ≡ true → leaves_after xs j u ≡ true
leaves_sooner xs j u t le = by (find (λ x. is_leave_of j.task x.event) xs) where
  by : (o : Option Numbered) → option_map_or (λ x. nat_le t (slot_of x.event)) o true ≡ true →
      option_map_or (λ x. nat_le u (slot_of x.event)) o true ≡ true
  by None stays = refl
  by (Some x) stays = le-leb u (slot_of x.event) (omega (arith, le, leb-true t (slot_of x.event) stays))

module _ (s : Plan) (scenario : IsScenario s) (r : List Slot) (run : IsRun s (length r) r) where
  abbrev end_now : List Numbered
  end_now = events_in_force s r (length r)

  module _ (j : Joined) (at : Contains (all_joined s r) j) where
    -- a missed subtask is due by then
    miss_listed : (i : ℕ) → IsMiss s scenario r run j i → Contains (misses_of_task r end_now j) (miss_of r end_now j (suc i))
    miss_listed i miss =
        let lt : i < length r = omega (arith, miss.within, deadline_late j.weight (suc i) (share_of_joined s scenario r j at)) in
        in_map (miss_of r end_now j) (filter (is_missed r end_now j) (range_with_len 1 (length r))) (suc i)
        (in_filter (is_missed r end_now j) (range_with_len 1 (length r)) (suc i) (in_range (length r) i lt) (is_miss s scenario r run j i miss))

    -- up to a slot t no window was missed
    abbrev NoneUpTo : ℕ → Type 0
    NoneUpTo t = (i : ℕ) → IsMiss s scenario r run j i → due_of r end_now j (suc i) ≤ t → ⊥

    pub none_missed : misses_of_task r end_now j ≡ [] → (i : ℕ) → IsMiss s scenario r run j i → ⊥
    none_missed none i miss =
        contains_none (miss_of r end_now j (suc i)) (subst (λ ms. Contains ms (miss_of r end_now j (suc i))) none (miss_listed i miss))

    none_upto : (t : ℕ) → ((m : Miss) → Contains (misses_of_task r end_now j) m → t < m.deadline) → NoneUpTo t
    none_upto t later i miss due = omega (arith, due, later (miss_of r end_now j (suc i)) (miss_listed i miss))

    -- then the clock is worth no quantum more than there were before it
    below : (t : ℕ) → NoneUpTo t → j.slot ≤ t → t ≤ length r → leaves_after end_now j t ≡ true →
        j.weight.cost * clock_of r end_now j t < j.weight.period * done r j.task t + j.weight.period
    below t none from within stays = ⊎_elim (λ less. less) late
        (cases_lt (j.weight.cost * clock_of r end_now j t) (j.weight.period * done r j.task t + j.weight.period)) where
          i : ℕ
          i = done r j.task t

          late : j.weight.period * i + j.weight.period ≤ j.weight.cost * clock_of r end_now j t →
              j.weight.cost * clock_of r end_now j t < j.weight.period * i + j.weight.period
          late worth =
              let due = due_of r end_now j (suc i) in
              let clock = clock_of r end_now j t in
              let passed : deadline_of j.weight (suc i) ≤ clock = deadline_passed j.weight i clock (share_of_joined s scenario r j at) worth in
              ⊎_elim
              (λ (early : t < due).
              let low = clock_before r end_now j (share_of_joined s scenario r j at) (events_rise s scenario r) (suc i) t (omega arith) from early in
              absurd (omega (arith, low, passed)))
              (λ (over : due ≤ t).
              absurd (none i (record {
                within = omega (arith, over, within);
                after = leaves_sooner end_now j due t over stays;
                late = done-rises r j.task due t over;
              }) over))
              (cases_lt t due)

    -- so its lag is below a quantum
    pub lag_below : (t : ℕ) → NoneUpTo t → IsStay s r j t → lag_after s r j t <ℤ pos j.weight.period
    lag_below t none stay = ⊎_elim later
        (λ (soon : t ≤ j.slot). omega (arith, ints, of_join (omega (arith, soon, stay.from)))) (cases_lt j.slot t) where
          later : j.slot < t → lag_after s r j t <ℤ pos j.weight.period
          later from =
              let point : IsInside end_now j (length r) t = inside_is end_now j (length r) t from stay.upto in
              omega (arith, ints, below t none stay.from point.within point.after)

          of_join : t ≡ j.slot → j.weight.cost * clock_of r end_now j t < j.weight.period
          of_join is =
              let begun : j.weight.cost * clock_of r end_now j t ≡ j.weight.cost * 0 = ap (λ k. j.weight.cost * k) (clock_begins r end_now j t is) in
              omega (arith, begun, (share_of_joined s scenario r j at).some, (share_of_joined s scenario r j at).within)

pub lags_are_below : LagsAreBelow
lags_are_below s n r j t scenario run at stay none =
    let run' : IsRun s (length r) r = subst (λ m. IsRun s m r) (sym run.slots) run in
    lag_below s scenario r run' j at t (none_upto s scenario r run' j at t none) stay
