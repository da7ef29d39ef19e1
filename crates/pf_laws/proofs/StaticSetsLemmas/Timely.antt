-- Every subtask runs before its deadline, since in the schedule up to there none is overdue. So each runs in its window.
use Rattle.std.proofs.Common.{◌≡◌, ℕ, zero, suc, ◌+◌, ◌<◌, ◌≤◌, true, false, Bool, if◌then◌else◌, arith, subst, ⊎_elim}
use Rattle.std.proofs.lemmas.Bool.{cases_lt, cases_Bool, both_ways}
use Rattle.pf_window.specs.Window.{release_of, deadline_of}
use Rattle.pf_laws.specs.Ideal.Schedule.{IsWithin, is_overdue}
use Rattle.pf_laws.proofs.IdealLemmas.Overdue.{is_overdue_from}
use Rattle.pf_laws.proofs.IdealLemmas.Costs.{none_is_overdue}
use Rattle.pf_laws.specs.StaticSets.Periodic.{Periodic, is_task_of, weight_of, IsFeasible}
use Rattle.pf_laws.specs.StaticSets.Choice.{received_of, IsPD2}
use Rattle.pf_laws.specs.StaticSets.Laws.{EachRunsInItsWindow}
use Rattle.pf_laws.proofs.StaticSetsLemmas.Weights.{weight-known, load-within}
use Rattle.pf_laws.proofs.StaticSetsLemmas.Serving.{due_of, schedule_upto, is_by_reach}

module _ (p : Periodic) (runs : ℕ → ℕ → Bool) (is : IsFeasible p) (pd2 : IsPD2 p runs) where
  within : (end : ℕ) → IsWithin (schedule_upto p runs end)
  within end v lt = load-within p is

  timely : (t i : ℕ) → is_task_of p t ≡ true → i < received_of runs t (due_of p t i)
  timely t i known = ⊎_elim (λ ran. ran)
      (λ (late : received_of runs t end ≤ i).
      let none =
      none_is_overdue (schedule_upto p runs end) t i (is_by_reach p runs is pd2 end) (within end) known in
      absurd
      (both_ways (is_overdue (schedule_upto p runs end) t i) none
      (is_overdue_from (schedule_upto p runs end) t i known (omega arith) late)))
      (cases_lt i (received_of runs t end))
    where
      end : ℕ
      end = due_of p t i

  -- the slot in which a subtask ran
  slot_of : (t i v : ℕ) → i < received_of runs t v →
      (slot : ℕ) × (slot < v) × (runs t slot ≡ true) × (received_of runs t slot ≡ i)
  unfolding received_of
  slot_of t i zero ran = absurd (omega (arith, ran))
  slot_of t i (suc v) ran = ⊎_elim
      (λ (lt : i < received_of runs t v). let it = slot_of t i v lt in (it.0, omega (arith, it.1), it.2, it.3))
      (λ (ge : received_of runs t v ≤ i).
      ⊎_elim
      (λ (running : runs t v ≡ true).
      let up = subst (λ b. i < received_of runs t v + (if b then 1 else 0)) running ran in
      (v, omega arith, running, omega (arith, up, ge)))
      (λ (idle : runs t v ≡ false).
      absurd (omega (arith, subst (λ b. i < received_of runs t v + (if b then 1 else 0)) idle ran, ge)))
      (cases_Bool (runs t v)))
      (cases_lt i (received_of runs t v))

pub each_runs_in_its_window : EachRunsInItsWindow
each_runs_in_its_window p runs t zero is pd2 known some = absurd (omega (arith, some))
each_runs_in_its_window p runs t (suc i) is pd2 known some =
    let ran = timely p runs is pd2 t i known in
    let it = slot_of p runs is pd2 t i (due_of p t i) ran in
    record {
      slot = it.0;
      ran = it.2;
      number = omega (arith, it.3);
      from = subst (λ x. release_of (weight_of p t) (suc x) ≤ it.0) it.3 (pd2.released t it.0 it.2);
      upto = subst (λ w. it.0 < deadline_of w (suc i)) (weight-known p is t known) (omega (arith, it.1));
    }
