-- Overdue windows of a run cost quanta, as those of its schedule do.
use Rattle.std.proofs.Common.{◌≡◌, ℕ, zero, suc, ◌+◌, ◌*◌, ◌≤◌, ◌&&◌, Bool, true, nat_le, nat_lt, List, [], ◌∷◌, length, map, sum_by, count_by, Contains, arith, sym, subst}
use Rattle.std.specs.List.{range_with_len}
use Rattle.std.proofs.Math.Nat.{mul-le-mul_left}
use Rattle.std.proofs.lemmas.Bool.{and_parts, and_from, leb-true, ltb-true, le-leb, lt-ltb}
use Rattle.std.proofs.lemmas.List.Sums.{sum_by-cons}
use Rattle.pf_scenario.specs.Scenario.{Plan}
use Rattle.pf_scenario.specs.Edit.{IsScenario}
use Rattle.pf_scenario.specs.declared.event.Numbered.{Numbered}
use Rattle.pf_run.specs.Record.{Slot, done}
use Rattle.pf_run.specs.Inside.{Joined}
use Rattle.pf_run.specs.Run.{events_in_force, IsRun}
use Rattle.pf_run.proofs.Containing.{contains_head, contains_tail}
use Rattle.pf_tally.specs.Misses.{due_of, leaves_after}
use Rattle.pf_laws.specs.Ideal.Schedule as ideal
use Rattle.pf_laws.proofs.IdealLemmas.Sums.{one, one-mono}
use Rattle.pf_laws.proofs.IdealLemmas.Overdue.{is_overdue_from}
use Rattle.pf_laws.proofs.IdealLemmas.Costs as costs
use Rattle.pf_tally.specs.Load.{overload_of}
use Rattle.pf_laws.specs.Promise.Overdue.{is_overdue, overdue_of_task, overdue_of}
use Rattle.pf_laws.specs.Promise.Laws.{OverdueCostsQuanta}
use Rattle.pf_laws.proofs.PromiseLemmas.Sets.{is_among}
use Rattle.pf_laws.proofs.PromiseLemmas.Joining.{all_joined, task_at, demand_of, task_at-joined, is_known}
use Rattle.pf_laws.proofs.PromiseLemmas.Choosing.{schedule_upto}
use Rattle.pf_laws.proofs.PromiseLemmas.Presence.{is_by_reach}
use Rattle.pf_laws.proofs.PromiseLemmas.Overloads.{overload-of}
use Rattle.pf_laws.proofs.PromiseLemmas.Ran.{due_in_is}

-- numbered from 1, and from 0
count_shifted : (p q : ℕ → Bool) (a b n : ℕ) → a ≡ suc b → ((i : ℕ) → p (suc i) ≡ true → q i ≡ true) →
    count_by p (range_with_len a n) ≤ count_by q (range_with_len b n)
count_shifted p q a b zero next imp = omega arith
count_shifted p q a b (suc n) next imp =
    omega (
      arith,
      sum_by-cons (λ i. one (p i)) a (range_with_len (a + 1) n),
      sum_by-cons (λ i. one (q i)) b (range_with_len (b + 1) n),
      one-mono (p a) (q b) (λ h. imp b (subst (λ i. p i ≡ true) next h)),
      count_shifted p q (a + 1) (b + 1) n (omega (arith, next)) imp,
    )

-- over tasks, and over their numbers
sum_by-tasks : (f : Joined → ℕ) (g : ℕ → ℕ) (js : List Joined) → ((j : Joined) → Contains js j → f j ≤ g j.task) →
    sum_by f js ≤ sum_by g (map (λ (j : Joined). j.task) js)
sum_by-tasks f g [] le = omega arith
sum_by-tasks f g (j ∷ js) le =
    omega (
      arith,
      sum_by-cons f j js,
      sum_by-cons g j.task (map (λ (k : Joined). k.task) js),
      le j (contains_head j js),
      sum_by-tasks f g js (λ k at. le k (contains_tail j js k at)),
    )

module _ (s : Plan) (scenario : IsScenario s) (r : List Slot) (run : IsRun s (length r) r) where
  abbrev end_now : List Numbered
  end_now = events_in_force s r (length r)

  pub overdue_parts : (j : Joined) (t i : ℕ) → is_overdue r end_now j t i ≡ true →
      (due_of r end_now j i ≤ t) × (leaves_after end_now j t ≡ true) × (suc (done r j.task t) ≤ i)
  overdue_parts j t i h =
      let outer = and_parts (nat_le (due_of r end_now j i) t && leaves_after end_now j t) (nat_lt (done r j.task t) i) h in
      let inner = and_parts (nat_le (due_of r end_now j i) t) (leaves_after end_now j t) outer.0 in
      (leb-true (due_of r end_now j i) t inner.0, inner.1, ltb-true (done r j.task t) i outer.1)

  pub is_overdue_by : (j : Joined) (t i : ℕ) → due_of r end_now j i ≤ t → leaves_after end_now j t ≡ true →
      suc (done r j.task t) ≤ i → is_overdue r end_now j t i ≡ true
  is_overdue_by j t i due after late =
      and_from (nat_le (due_of r end_now j i) t && leaves_after end_now j t) (nat_lt (done r j.task t) i)
      (and_from (nat_le (due_of r end_now j i) t) (leaves_after end_now j t) (le-leb (due_of r end_now j i) t due) after)
      (lt-ltb (done r j.task t) i late)

  -- what is overdue in the run is so in its schedule
  overdue_in : (t : ℕ) (j : Joined) → Contains (all_joined s r) j → (i : ℕ) → is_overdue r end_now j t (suc i) ≡ true →
      ideal.is_overdue (schedule_upto s r t) j.task i ≡ true
  overdue_in t j at i h =
      let it = overdue_parts j t (suc i) h in
      let after : leaves_after end_now (task_at s r j.task) t ≡ true =
      subst (λ k. leaves_after end_now k t ≡ true) (sym (task_at-joined s scenario r j at)) it.1 in
      is_overdue_from (schedule_upto s r t) j.task i
      (and_from (is_among (demand_of s r).tasks j.task) (leaves_after end_now (task_at s r j.task) t) (is_known s scenario r j at) after)
      (omega (arith, it.0, due_in_is s scenario r run j at i)) (omega (arith, it.2))

  pub overdue_few : (t : ℕ) → overdue_of s r t ≤ sum_by (ideal.overdue_of (schedule_upto s r t)) (demand_of s r).tasks
  unfolding overdue_of
  overdue_few t =
      sum_by-tasks (λ j. overdue_of_task r end_now j t) (ideal.overdue_of (schedule_upto s r t)) (all_joined s r)
      (λ j at.
      count_shifted (is_overdue r end_now j t) (ideal.is_overdue (schedule_upto s r t) j.task) 1 0 t (omega arith)
      (overdue_in t j at))

  -- what is overdue in the schedule costs quanta of the run's overload
  pub schedule_costs : (t : ℕ) → t ≤ length r →
      s.settings.base * sum_by (ideal.overdue_of (schedule_upto s r t)) (demand_of s r).tasks ≤ overload_of s r t
  schedule_costs t le =
      omega (
        arith,
        costs.overdue_costs_quanta (schedule_upto s r t) (is_by_reach s scenario r run t le),
        overload-of s scenario r run t t le,
      )

  pub overdue_costs : (t : ℕ) → t ≤ length r → s.settings.base * overdue_of s r t ≤ overload_of s r t
  overdue_costs t le = omega (arith, mul-le-mul_left s.settings.base (overdue_few t), schedule_costs t le)

pub overdue_costs_quanta : OverdueCostsQuanta
overdue_costs_quanta s n r t scenario run le =
    overdue_costs s scenario r (subst (λ k. IsRun s k r) (sym run.slots) run) t (omega (arith, le, run.slots))
