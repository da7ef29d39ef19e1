-- How far a task is behind its fair share is paid for by overload: as many of its windows are overdue.
use Rattle.std.proofs.Common.{◌≡◌, ℕ, zero, suc, ◌+◌, ◌*◌, ◌<◌, ◌≤◌, Bool, true, List, length, sum_by, count_by, Contains, arith, ap, sym, subst, ⊎_elim}
use Rattle.std.specs.List.{range_with_len}
use Rattle.std.proofs.Math.Nat.{mul-le-mul_left}
use Rattle.std.proofs.lemmas.Bool.{cases_lt}
use Rattle.std.proofs.lemmas.List.Sums.{sum_by-cons, get_or-le-sum_by}
use Rattle.pf_window.specs.Window.{deadline_of}
use Rattle.pf_scenario.specs.Scenario.{Plan}
use Rattle.pf_scenario.specs.Edit.{IsScenario}
use Rattle.pf_scenario.specs.declared.event.Numbered.{Numbered}
use Rattle.pf_run.specs.Record.{Slot, done}
use Rattle.pf_run.specs.Inside.{Joined}
use Rattle.pf_run.specs.Run.{events_in_force, IsRun}
use Rattle.pf_tally.specs.Clock.{clock_of}
use Rattle.pf_tally.specs.Misses.{due_of, leaves_after}
use Rattle.pf_tally.proofs.Windows.{deadline_late}
use Rattle.pf_laws.proofs.IdealLemmas.Sums.{one}
use Rattle.pf_tally.specs.Load.{overload_of}
use Rattle.pf_laws.specs.Promise.Overdue.{is_overdue, overdue_of_task, overdue_of}
use Rattle.pf_laws.proofs.PromiseLemmas.Joining.{all_joined, task_at-joined, is_known, known}
use Rattle.pf_laws.proofs.PromiseLemmas.Presence.{due_rises}
use Rattle.pf_laws.proofs.PromiseLemmas.Overdue.{is_overdue_by, overdue_costs}
use Rattle.pf_laws.specs.Promise.LagLaws.{LagsCostQuanta}
use Rattle.pf_laws.proofs.PromiseLemmas.Below.{deadline_passed, clock_begins}
use Rattle.pf_laws.proofs.PromiseLemmas.Clocks.{clock_before}
use Rattle.pf_laws.proofs.PromiseLemmas.Stays.{events_rise, share_of_joined, IsInside, inside_is}

-- m numbers in a row that pass are counted
count_row : (p : ℕ → Bool) (a n b m : ℕ) → a ≤ b → b + m ≤ a + n → ((i : ℕ) → b ≤ i → i < b + m → p i ≡ true) →
    m ≤ count_by p (range_with_len a n)
count_row p a n b zero low high passes = omega arith
count_row p a zero b (suc m) low high passes = absurd (omega (arith, low, high))
count_row p a (suc n) b (suc m) low high passes = ⊎_elim
    (λ (later : a < b).
    omega (
      arith,
      sum_by-cons (λ i. one (p i)) a (range_with_len (a + 1) n),
      count_row p (a + 1) n b (suc m) (omega (arith, later)) (omega (arith, high)) passes,
    ))
    (λ (here : b ≤ a).
    omega (
      arith,
      sum_by-cons (λ i. one (p i)) a (range_with_len (a + 1) n),
      ap (λ c. one c) (passes a here (omega (arith, low))),
      count_row p (a + 1) n (b + 1) m (omega (arith, low)) (omega (arith, low, here, high))
          (λ i from upto. passes i (omega (arith, from)) (omega (arith, upto))),
    ))
    (cases_lt a b)

module _ (s : Plan) (scenario : IsScenario s) (r : List Slot) (run : IsRun s (length r) r) where
  abbrev end_now : List Numbered
  end_now = events_in_force s r (length r)

  module _ (j : Joined) (at : Contains (all_joined s r) j) where
    due_up : (i k : ℕ) → i < k → due_of r end_now j i < due_of r end_now j k
    due_up i k less =
        subst (λ z. due_of r end_now z i < due_of r end_now z k) (task_at-joined s scenario r j at)
        (due_rises s scenario r run j.task (known s scenario r j.task (is_known s scenario r j at)) i k less)

    due_most : (i k : ℕ) → i ≤ k → due_of r end_now j i ≤ due_of r end_now j k
    due_most i k le = ⊎_elim (λ less. omega (arith, due_up i k less))
        (λ ge. let same : i ≡ k = omega (arith, le, ge) in omega (arith, ap (λ m. due_of r end_now j m) same))
        (cases_lt i k)

    -- after its overdue subtasks the next one is not due yet
    next_due : (t : ℕ) → leaves_after end_now j t ≡ true →
        t < due_of r end_now j (suc (done r j.task t + overdue_of_task r end_now j t))
    next_due t after = ⊎_elim (λ later. later)
        (λ (over : due_of r end_now j (suc (done r j.task t + overdue_of_task r end_now j t)) ≤ t).
        let d = done r j.task t in
        let k = overdue_of_task r end_now j t in
        let many =
        count_row (is_overdue r end_now j t) 1 t (suc d) (suc k) (omega arith)
        (omega (arith, over, deadline_late j.weight (suc (d + k)) (share_of_joined s scenario r j at)))
        (λ i from upto.
        is_overdue_by s scenario r run j t i
        (omega (arith, over, due_most i (suc (d + k)) (omega (arith, upto)))) after from) in
        absurd (omega (arith, many)))
        (cases_lt t (due_of r end_now j (suc (done r j.task t + overdue_of_task r end_now j t))))

    few : (t : ℕ) → overdue_of_task r end_now j t ≤ overdue_of s r t
    unfolding overdue_of
    few t =
        subst (λ z. overdue_of_task r end_now z t ≤ sum_by (λ k. overdue_of_task r end_now k t) (all_joined s r)) at.2
        (get_or-le-sum_by (λ k. overdue_of_task r end_now k t) (all_joined s r) at.0 j at.1)

    paid : (t : ℕ) → j.slot ≤ t → t ≤ length r → leaves_after end_now j t ≡ true →
        s.settings.base * (j.weight.cost * clock_of r end_now j t)
        < s.settings.base * (j.weight.period * done r j.task t) + j.weight.period * (s.settings.base + overload_of s r t)
    paid t from within after =
        let d = done r j.task t in
        let k = overdue_of_task r end_now j t in
        let h = s.settings.base in
        let w = j.weight in
        let clock = clock_of r end_now j t in
        let share = share_of_joined s scenario r j at in
        let low : clock < deadline_of w (suc (d + k)) =
        clock_before r end_now j share (events_rise s scenario r) (suc (d + k)) t (omega arith) from (next_due t after) in
        let less : w.cost * clock < w.period * (d + k) + w.period =
        ⊎_elim (λ lt. lt)
        (λ (worth : w.period * (d + k) + w.period ≤ w.cost * clock). absurd (omega (arith, low, deadline_passed w (d + k) clock share worth)))
        (cases_lt (w.cost * clock) (w.period * (d + k) + w.period)) in
        let scaled : h * (w.cost * clock + 1) ≤ h * (w.period * (d + k) + w.period) =
        mul-le-mul_left h (omega (arith, less)) in
        let costs : h * k ≤ overload_of s r t =
        omega (arith, mul-le-mul_left h (few t), overdue_costs s scenario r run t within) in
        let payed : w.period * (h * k) ≤ w.period * overload_of s r t = mul-le-mul_left w.period costs in
        let left : h * (w.cost * clock + 1) ≡ h * (w.cost * clock) + h = grind arith in
        let right : h * (w.period * (d + k) + w.period) ≡ h * (w.period * d) + w.period * (h * k) + w.period * h = grind arith in
        let sum : w.period * (h + overload_of s r t) ≡ w.period * h + w.period * overload_of s r t = grind arith in
        omega (arith, scaled, left, right, sum, payed, scenario.settings.limits.base.some)

pub lags_cost_quanta : LagsCostQuanta
lags_cost_quanta s n r j t scenario run at stay = ⊎_elim later
    (λ (soon : t ≤ j.slot). at_join (omega (arith, soon, stay.from)))
    (cases_lt j.slot t)
  where
    run' : IsRun s (length r) r
    run' = subst (λ m. IsRun s m r) (sym run.slots) run

    later : j.slot < t → s.settings.base * (j.weight.cost * clock_of r (events_in_force s r (length r)) j t)
        < s.settings.base * (j.weight.period * done r j.task t) + j.weight.period * (s.settings.base + overload_of s r t)
    later from =
        let point : IsInside (events_in_force s r (length r)) j (length r) t =
        inside_is (events_in_force s r (length r)) j (length r) t from stay.upto in
        paid s scenario r run' j at t stay.from point.within point.after

    at_join : t ≡ j.slot → s.settings.base * (j.weight.cost * clock_of r (events_in_force s r (length r)) j t)
        < s.settings.base * (j.weight.period * done r j.task t) + j.weight.period * (s.settings.base + overload_of s r t)
    at_join is =
        let share = share_of_joined s scenario r j at in
        let none : s.settings.base * (j.weight.cost * clock_of r (events_in_force s r (length r)) j t) ≡ s.settings.base * (j.weight.cost * 0) =
        ap (λ k. s.settings.base * (j.weight.cost * k)) (clock_begins r (events_in_force s r (length r)) j t is) in
        let zero_is : s.settings.base * (j.weight.cost * 0) ≡ 0 = grind arith in
        let real : 1 ≤ s.settings.base + overload_of s r t = omega (arith, scenario.settings.limits.base.some) in
        omega (arith, none, zero_is, mul-le-mul_left j.weight.period real, share.some, share.within)
