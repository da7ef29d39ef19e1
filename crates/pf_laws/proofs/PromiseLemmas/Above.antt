-- No task is ahead of its fair share by a quantum and what its early slots are worth.
use Rattle.std.proofs.Common.{◌≡◌, ℕ, zero, suc, ◌+◌, ◌-◌, ◌*◌, ◌/◌, ◌<◌, ◌≤◌, List, length, Contains, arith, refl, ap, sym, subst}
use Rattle.std.proofs.Math.Nat.{mul-le-mul_left}
use Rattle.std.proofs.lemmas.Int.{ints}
use Rattle.pf_window.specs.Window.{release_of}
use Rattle.pf_window.proofs.Quotients.{floor_is}
use Rattle.pf_scenario.specs.Scenario.{Plan}
use Rattle.pf_scenario.specs.Edit.{IsScenario}
use Rattle.pf_scenario.specs.declared.event.Numbered.{Numbered}
use Rattle.pf_run.specs.Record.{Slot, done}
use Rattle.pf_run.specs.Inside.{Joined, shift_of}
use Rattle.pf_run.specs.Run.{events_in_force, IsRun}
use Rattle.pf_weight.specs.Share.{Share, IsShare}
use Rattle.pf_tally.specs.Clock.{clock_of}
use Rattle.pf_laws.proofs.PromiseLemmas.Joining.{all_joined}
use Rattle.pf_laws.proofs.PromiseLemmas.Ran.{slot_of_sub}
use Rattle.pf_laws.specs.Promise.LagLaws.{LagsAreAbove}
use Rattle.pf_laws.proofs.PromiseLemmas.Clocks.{clock_past}
use Rattle.pf_laws.proofs.PromiseLemmas.Eligible.{RunsInTime, runs_in_time}
use Rattle.pf_laws.proofs.PromiseLemmas.Stays.{events_rise, share_of_joined, joined_below, last_within}

-- where the clock is past the release of subtask i + 1, or early, so many quanta are no more than it is worth
quanta_worth : (w : Share) (i clock early : ℕ) → IsShare w → release_of w (suc i) < clock + early →
    w.period * suc i < w.cost * clock + w.cost * early + w.period
unfolding release_of
quanta_worth w i clock early share past =
    let it = floor_is (i * w.period) w.cost share.some in
    let before : suc i - 1 ≡ i = omega arith in
    let same = ap (λ n. n * w.period / w.cost) before in
    let up : w.cost * (i * w.period / w.cost + 1) ≤ w.cost * (clock + early) = mul-le-mul_left w.cost (omega (arith, past, same)) in
    grind (arith, it.next, up)

module _ (s : Plan) (scenario : IsScenario s) (r : List Slot) (run : IsRun s (length r) r) where
  abbrev end_now : List Numbered
  end_now = events_in_force s r (length r)

  pub above : (j : Joined) → Contains (all_joined s r) j → (t : ℕ) → j.slot ≤ t → t ≤ length r →
      j.weight.period * done r j.task t < j.weight.cost * clock_of r end_now j t + j.weight.cost * j.early + j.weight.period
  above j at t from le = by (done r j.task t) refl where
    by : (k : ℕ) → done r j.task t ≡ k →
        j.weight.period * k < j.weight.cost * clock_of r end_now j t + j.weight.cost * j.early + j.weight.period
    by zero is = let it = share_of_joined s scenario r j at in omega (arith, it.some, it.within)
    by (suc i) is =
        let it = slot_of_sub s scenario r run j.task i t le (omega (arith, is)) in
        let timely : RunsInTime s scenario r run it.0 (omega (arith, it.1, le)) j =
        runs_in_time s scenario r run it.0 (omega (arith, it.1, le)) j at it.2 in
        let sub : suc (done r j.task it.0) ≡ suc i = ap suc it.3 in
        quanta_worth j.weight i (clock_of r end_now j t) j.early (share_of_joined s scenario r j at)
        (clock_past r end_now j (share_of_joined s scenario r j at) (events_rise s scenario r) (suc i) t j.early (omega arith) from
        (omega (arith, timely.after, it.1, ap (λ k. release_of j.weight k + shift_of r end_now j k) sub)))

pub lags_are_above : LagsAreAbove
lags_are_above s n r j t scenario run at stay =
    let run' : IsRun s (length r) r = subst (λ m. IsRun s m r) (sym run.slots) run in
    let xs = events_in_force s r (length r) in
    let short : t ≤ length r =
    omega (arith, stay.upto, last_within xs j (length r) (omega (arith, joined_below s scenario r j at))) in
    omega (arith, ints, above s scenario r run' j at t stay.from short)
