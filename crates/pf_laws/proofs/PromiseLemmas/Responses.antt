-- How soon and how late a job is done.
use Rattle.std.proofs.Common.{◌≡◌, ℕ, zero, suc, ◌+◌, ◌-◌, ◌*◌, ◌/◌, ◌<◌, ◌≤◌, ◌==◌, ◌&&◌, true, false, nat_le, Option, None, Some, List, [], length, find, get_or, Contains, arith, refl, ap, sym, ◌∙◌, subst, ⊎_elim}
use Rattle.std.specs.Int.{div_ceil}
use Rattle.std.specs.List.{list_any}
use Rattle.std.specs.Option.{option_map_or}
use Rattle.std.proofs.Math.Nat.{lt_of_mul-lt-mul_right}
use Rattle.std.proofs.lemmas.Bool.{cases_lt, both_ways, le-leb}
use Rattle.std.proofs.lemmas.Int.{ints}
use Rattle.std.proofs.lemmas.List.Quantifiers.{position-Some}
use Rattle.pf_weight.specs.Share.{Share, IsShare}
use Rattle.pf_window.specs.Window.{release_of, deadline_of}
use Rattle.pf_window.proofs.Quotients.{IsFloor, IsCeil, floor_is, ceil_is, floor_only, ceil_only}
use Rattle.pf_order.specs.declared.pick.Pick.{Pick}
use Rattle.pf_scenario.specs.Event.{slot_of, is_leave_of}
use Rattle.pf_scenario.specs.Scenario.{Plan}
use Rattle.pf_scenario.specs.Edit.{IsScenario}
use Rattle.pf_scenario.specs.declared.event.Numbered.{Numbered}
use Rattle.pf_run.specs.Record.{Slot, runs, done}
use Rattle.pf_run.specs.Inside.{Joined, shift_of}
use Rattle.pf_run.specs.Run.{events_in_force, IsRun}
use Rattle.pf_tally.specs.Misses.{due_of, ran_in, leaves_after, is_missed, misses_of_task}
use Rattle.pf_tally.proofs.Windows.{deadline_late}
use Rattle.pf_laws.proofs.IdealLemmas.Rising.{rises}
use Rattle.pf_tally.proofs.Members.{found_is}
use Rattle.pf_laws.proofs.PromiseLemmas.Shifts.{no_slot, done-rises}
use Rattle.pf_laws.proofs.PromiseLemmas.Choosing.{shift_slot, picked_next}
use Rattle.pf_laws.proofs.PromiseLemmas.Joining.{all_joined, shift-rises}
use Rattle.pf_laws.proofs.PromiseLemmas.Ran.{is_miss}
use Rattle.pf_laws.specs.Promise.Stay.{IsStay}
use Rattle.pf_laws.specs.Promise.Job.{last_of, first_of, delay_within}
use Rattle.pf_laws.specs.Promise.JobLaws.{JobsAreInTime, JobsAreNotSooner, DueJobsAreDone}
use Rattle.pf_laws.proofs.PromiseLemmas.Clocks.{times_less}
use Rattle.pf_laws.proofs.PromiseLemmas.Stays.{share_of_joined, IsInside, inside_is}
use Rattle.pf_laws.proofs.PromiseLemmas.Eligible.{RunsInTime, runs_in_time}
use Rattle.pf_laws.proofs.PromiseLemmas.Below.{none_missed, leaves_sooner}

-- the window of a job: it begins with a period, and ends with one
job_deadline : (w : Share) (k : ℕ) → IsShare w → deadline_of w (k * w.cost) ≡ k * w.period
unfolding deadline_of
job_deadline w k share =
    ceil_only (ceil_is (k * w.cost * w.period) w.cost share.some)
    (let it : IsCeil (k * w.cost * w.period) w.cost (k * w.period) =
    record { enough = grind arith; least = let same : k * w.period * w.cost ≡ k * w.cost * w.period = grind arith in omega (arith, same, share.some) } in it)

job_release : (w : Share) (k : ℕ) → IsShare w → release_of w (suc k * w.cost + 1 - w.cost) ≡ k * w.period
unfolding release_of
job_release w k share =
    let first : suc k * w.cost + 1 - w.cost - 1 ≡ k * w.cost = omega arith in
    ap (λ n. n * w.period / w.cost) first
    ∙ floor_only (floor_is (k * w.cost * w.period) w.cost share.some)
    (let it : IsFloor (k * w.cost * w.period) w.cost (k * w.period) =
    record { within = grind arith; next = let same : k * w.period * w.cost ≡ k * w.cost * w.period = grind arith in omega (arith, same, share.some) } in it)

-- the last window of a job is no longer than the period of one subtask, rounded up
last_release : (w : Share) (k : ℕ) → IsShare w → 1 ≤ k → k * w.period ≤ release_of w (k * w.cost) + div_ceil w.period w.cost
unfolding release_of
last_release w k share some =
    let low = floor_is ((k * w.cost - 1) * w.period) w.cost share.some in
    let high = ceil_is w.period w.cost share.some in
    let q = (k * w.cost - 1) * w.period / w.cost in
    let subs : 1 ≤ k * w.cost = grind (arith, some, share.some) in
    let turned : k * w.cost * w.period ≡ k * w.period * w.cost = grind arith in
    let whole = times_less (k * w.cost) w.period subs in
    let sum : (q + div_ceil w.period w.cost + 1) * w.cost ≡ q * w.cost + div_ceil w.period w.cost * w.cost + w.cost = grind arith in
    let more : k * w.period < q + div_ceil w.period w.cost + 1 =
    lt_of_mul-lt-mul_right w.cost (omega (arith, low.next, high.enough, turned, whole, sum)) in
    omega (arith, more)

module _ (s : Plan) (scenario : IsScenario s) (r : List Slot) (run : IsRun s (length r) r) (j : Joined)
    (at : Contains (all_joined s r) j) where
  abbrev end_now : List Numbered
  end_now = events_in_force s r (length r)

  -- what is known of a subtask, numbered from 0, that ran in slot t
  record HasRun (i t : ℕ) : Type 0 where
    within : t < length r
    running : runs j.task (get_or r t no_slot) ≡ true
    before : done r j.task t ≡ i
    timely : RunsInTime s scenario r run t within j

  has_run : (i t : ℕ) → ran_in r j (suc i) ≡ Some t → HasRun i t
  has_run i t is =
      let test = λ (d : Slot). list_any (λ (p : Pick). p.task == j.task && p.sub == suc i) d.picks in
      let it = position-Some test r t no_slot is in
      let next = picked_next s scenario r run t it.0 j.task i it.1 in
      record { within = it.0; running = next.0; before = next.1; timely = runs_in_time s scenario r run t it.0 j at next.0 }

  -- one that isn't missed ran before it was due
  ran_before : (i t : ℕ) → HasRun i t → is_missed r end_now j (suc i) ≡ false → t < due_of r end_now j (suc i)
  ran_before i t it served = ⊎_elim (λ less. less)
      (λ (over : due_of r end_now j (suc i) ≤ t).
      absurd (both_ways (is_missed r end_now j (suc i)) served
      (is_miss s scenario r run j i (record {
        within = omega (arith, over, it.within);
        after = after over;
        late = omega (arith, it.before, done-rises r j.task (due_of r end_now j (suc i)) t over);
      }))))
      (cases_lt t (due_of r end_now j (suc i))) where
        after : due_of r end_now j (suc i) ≤ t → leaves_after end_now j (due_of r end_now j (suc i)) ≡ true
        after over = by (find (λ x. is_leave_of j.task x.event) end_now) refl where
          by : (o : Option Numbered) → find (λ x. is_leave_of j.task x.event) end_now ≡ o →
              option_map_or (λ x. nat_le (due_of r end_now j (suc i)) (slot_of x.event)) o true ≡ true
          by None is = refl
          by (Some x) is =
              let found = found_is (λ (y : Numbered). is_leave_of j.task y.event) end_now x is in
              le-leb (due_of r end_now j (suc i)) (slot_of x.event) (omega (arith, over, it.timely.stays x found.0 found.1))

  shifts_up : (i k : ℕ) → i ≤ k → shift_of r end_now j i ≤ shift_of r end_now j k
  shifts_up i k le = rises (λ n. shift_of r end_now j n) (λ n. shift-rises s scenario r end_now j n) i k le

  -- of job k + 1
  module _ (k t : ℕ) (ran : ran_in r j (last_of j (suc k)) ≡ Some t) where
    abbrev last : ℕ
    last = last_of j (suc k)

    some : 1 ≤ last
    some = let it = (share_of_joined s scenario r j at).some in omega (arith, it)

    sub : suc (last - 1) ≡ last
    sub = omega (arith, some)

    it : HasRun (last - 1) t
    it = has_run (last - 1) t (subst (λ i. ran_in r j i ≡ Some t) (sym sub) ran)

    begins : release_of j.weight (first_of j (suc k)) ≡ k * j.weight.period
    begins = job_release j.weight k (share_of_joined s scenario r j at)

    sooner : shift_of r end_now j (first_of j (suc k)) ≤ shift_of r end_now j last
    sooner = shifts_up (first_of j (suc k)) last (let it = (share_of_joined s scenario r j at).some in omega (arith, it))

    pub late : is_missed r end_now j last ≡ false →
        t + 1 ≤ release_of j.weight (first_of j (suc k)) + shift_of r end_now j (first_of j (suc k)) + (j.weight.period + delay_within s r j (suc k))
    late served =
        let before = ran_before (last - 1) t it (subst (λ i. is_missed r end_now j i ≡ false) (sym sub) served) in
        let due : due_of r end_now j (suc (last - 1)) ≡ due_of r end_now j last = ap (λ i. due_of r end_now j i) sub in
        let ends : deadline_of j.weight last ≡ suc k * j.weight.period = job_deadline j.weight (suc k) (share_of_joined s scenario r j at) in
        omega (arith, before, due, ends, begins, sooner)

    pub soon : release_of j.weight (first_of j (suc k)) + shift_of r end_now j (first_of j (suc k)) + (j.weight.period + delay_within s r j (suc k))
        ≤ t + (div_ceil j.weight.period j.weight.cost + j.early)
    soon =
        let after = it.timely.after in
        let next : suc (done r j.task t) ≡ last = omega (arith, it.before, sub) in
        let released : release_of j.weight (suc (done r j.task t)) + shift_of r end_now j (suc (done r j.task t)) ≡ release_of j.weight last + shift_of r end_now j last =
        ap (λ i. release_of j.weight i + shift_of r end_now j i) next in
        let most = last_release j.weight (suc k) (share_of_joined s scenario r j at) (omega arith) in
        omega (arith, after, released, most, begins, sooner)

  pub done_by : (i t : ℕ) → misses_of_task r end_now j ≡ [] → IsStay s r j t → due_of r end_now j i ≤ t → i ≤ done r j.task t
  done_by zero t none stay due = omega arith
  done_by (suc i) t none stay due = ⊎_elim
      (λ (short : done r j.task t < suc i).
      let from : j.slot < t = omega (arith, due, shift_slot r end_now j (suc i), deadline_late j.weight (suc i) (share_of_joined s scenario r j at)) in
      let point : IsInside end_now j (length r) t = inside_is end_now j (length r) t from stay.upto in
      absurd (none_missed s scenario r run j at none i (record {
        within = omega (arith, due, point.within);
        after = leaves_sooner end_now j (due_of r end_now j (suc i)) t due point.after;
        late = omega (arith, short, done-rises r j.task (due_of r end_now j (suc i)) t due);
      })))
      (λ enough. enough) (cases_lt (done r j.task t) (suc i))

pub jobs_are_in_time : JobsAreInTime
jobs_are_in_time s n r j zero t scenario run at some ran served = absurd (omega (arith, some))
jobs_are_in_time s n r j (suc k) t scenario run at some ran served =
    let run' : IsRun s (length r) r = subst (λ m. IsRun s m r) (sym run.slots) run in
    omega (arith, ints, late s scenario r run' j at k t ran served)

pub jobs_are_not_sooner : JobsAreNotSooner
jobs_are_not_sooner s n r j zero t scenario run at some ran = absurd (omega (arith, some))
jobs_are_not_sooner s n r j (suc k) t scenario run at some ran =
    let run' : IsRun s (length r) r = subst (λ m. IsRun s m r) (sym run.slots) run in
    omega (arith, ints, soon s scenario r run' j at k t ran)

pub due_jobs_are_done : DueJobsAreDone
due_jobs_are_done s n r j k t scenario run at stay none due =
    let run' : IsRun s (length r) r = subst (λ m. IsRun s m r) (sym run.slots) run in
    done_by s scenario r run' j at (last_of j k) t none stay due
