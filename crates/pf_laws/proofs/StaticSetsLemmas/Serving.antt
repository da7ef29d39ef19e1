-- A schedule that PD2's rule allows, up to a slot, keeps the laws of schedules by deadline and reach.
use Rattle.std.proofs.Common.{◌≡◌, ℕ, zero, suc, ◌+◌, ◌<◌, ◌≤◌, Bool, true, false, not, ◌&&◌, if◌then◌else◌, count_by, arith, refl, ap, sym, subst, ⊎_elim}
use Rattle.std.proofs.lemmas.Bool.{cases_Bool, and_parts, and_from, not_from_false}
use Rattle.pf_window.specs.Window.{release_of, deadline_of}
use Rattle.pf_order.specs.Priority.{Priority, precedes}
use Rattle.pf_order.specs.KeyOf.{key_of}
use Rattle.pf_laws.specs.Ideal.Schedule.{Schedule, IsByReach, RunsInOrder, StaysInside}
use Rattle.pf_laws.proofs.IdealLemmas.Sums.{count_by-mono}
use Rattle.pf_laws.specs.Reach.Demand.{Service, key_in, schedule_of}
use Rattle.pf_laws.proofs.ReachLemmas.Keys.{preceding_not_behind}
use Rattle.pf_laws.proofs.ReachLemmas.Demands.{pd2_is_by_reach}
use Rattle.pf_laws.specs.StaticSets.Periodic.{Periodic, is_task_of, weight_of, IsFeasible}
use Rattle.pf_laws.specs.StaticSets.Choice.{received_of, sub_at, key_at, IsPD2}
use Rattle.pf_laws.proofs.StaticSetsLemmas.Weights.{weight_or, demand_of, weight-known, is_demand}

-- the deadline of subtask i, numbered from 0
abbrev pub due_of : Periodic → ℕ → ℕ → ℕ
due_of p t i = deadline_of (weight_or p t) (suc i) + 0

abbrev pub service_of : Periodic → (ℕ → ℕ → Bool) → ℕ → Service
service_of p runs end = record {
  runs = runs;
  done = received_of runs;
  inside = λ t v. is_task_of p t;
  count = λ v. p.processors;
  end = end;
  stays = is_task_of p;
}

abbrev pub schedule_upto : Periodic → (ℕ → ℕ → Bool) → ℕ → Schedule
schedule_upto p runs end = schedule_of (demand_of p) (service_of p runs end)

module _ (p : Periodic) (runs : ℕ → ℕ → Bool) (is : IsFeasible p) (pd2 : IsPD2 p runs) where
  ran_known : (t i v : ℕ) → i < received_of runs t v → is_task_of p t ≡ true
  unfolding received_of
  ran_known t i zero ran = absurd (omega (arith, ran))
  ran_known t i (suc v) ran = ⊎_elim (pd2.known t v)
      (λ (idle : runs t v ≡ false).
      ran_known t i v (omega (arith, subst (λ b. i < received_of runs t v + (if b then 1 else 0)) idle ran)))
      (cases_Bool (runs t v))

  -- the next subtask by the numbers of a demand
  key-known : (t v : ℕ) → is_task_of p t ≡ true → key_at p runs t v ≡ key_in (demand_of p) t (received_of runs t v)
  key-known t v known = ap (λ w. key_of w 0 (sub_at runs t v) t) (sym (weight-known p is t known))

  choice : (end : ℕ) → RunsInOrder (schedule_upto p runs end)
  unfolding received_of
  choice end = record {
    none = λ t. refl;
    counted = λ t v. refl;
    known = λ t v lt. pd2.known t v;
    inside = λ t v lt. pd2.known t v;
    first = first;
  } where
    first : (t v : ℕ) → v < end → is_task_of p t ≡ true → release_of (weight_or p t) (suc (received_of runs t v)) + 0 ≤ v →
        runs t v ≡ false → p.processors ≤ count_by (λ u. runs u v
        && not (precedes (key_in (demand_of p) t (received_of runs t v)) (key_in (demand_of p) u (received_of runs u v)))) p.tasks
    first t v lt known from idle =
        let released : release_of (weight_of p t) (sub_at runs t v) ≤ v =
        subst (λ w. release_of w (sub_at runs t v) ≤ v) (weight-known p is t known) (omega (arith, from)) in
        let more =
        count_by-mono (λ u. runs u v && precedes (key_at p runs u v) (key_at p runs t v))
        (λ u. runs u v && not (precedes (key_of_next t) (key_of_next u))) p.tasks ahead in
        omega (arith, pd2.first t v known released idle, more)
      where
        key_of_next : ℕ → Priority
        key_of_next u = key_in (demand_of p) u (received_of runs u v)

        ahead : (u : ℕ) → (runs u v && precedes (key_at p runs u v) (key_at p runs t v)) ≡ true →
            (runs u v && not (precedes (key_of_next t) (key_of_next u))) ≡ true
        ahead u h =
            let both = and_parts (runs u v) (precedes (key_at p runs u v) (key_at p runs t v)) h in
            let behind : precedes (key_at p runs t v) (key_at p runs u v) ≡ false =
            preceding_not_behind (key_at p runs u v) (key_at p runs t v) both.1 in
            let behind' : precedes (key_of_next t) (key_at p runs u v) ≡ false =
            subst (λ k. precedes k (key_at p runs u v) ≡ false) (key-known t v known) behind in
            and_from (runs u v) (not (precedes (key_of_next t) (key_of_next u))) both.0
            (not_from_false (precedes (key_of_next t) (key_of_next u))
            (subst (λ k. precedes (key_of_next t) k ≡ false) (key-known u v (pd2.known u v both.0)) behind'))

  presence : (end : ℕ) → StaysInside (schedule_upto p runs end)
  presence end = record {
    through = λ t i v below from upto ran. ran_known t i end ran;
    until = λ t i v u from upto below running. pd2.known t u running;
    past = λ t i v n below ran here far. ran_known t i v ran;
    stays = λ t i v below from known. known;
  }

  pub is_by_reach : (end : ℕ) → IsByReach (schedule_upto p runs end)
  is_by_reach end =
      let both = pd2_is_by_reach (demand_of p) (service_of p runs end) (is_demand p is) in
      record { windows = both.windows; order = both.order; choice = choice end; presence = presence end }
