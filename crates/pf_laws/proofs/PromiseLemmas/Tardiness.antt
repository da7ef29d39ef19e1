-- Tardiness costs quanta: where a missed subtask runs at last, its window is still overdue.
use Rattle.std.proofs.Common.{◌≡◌, ℕ, zero, suc, ◌+◌, ◌-◌, ◌*◌, ◌<◌, ◌≤◌, ◌==◌, ◌&&◌, Bool, true, false, max, cond, Option, None, Some, List, [], ◌∷◌, length, map, filter, fold, All, Contains, arith, refl, ap, sym, subst, ⊎_elim}
use Rattle.std.specs.List.{list_any, flat_map, range_with_len}
use Rattle.std.proofs.Math.Nat.{mul-le-mul_left}
use Rattle.std.proofs.lemmas.Bool.{cases_lt}
use Rattle.std.proofs.lemmas.List.Elements.{All-nil, All-cons, All-append, All-head, All-tail, All-weaker}
use Rattle.std.proofs.lemmas.List.FromFn.{length-range_with_len, get_or-range_with_len}
use Rattle.std.proofs.lemmas.List.Quantifiers.{position-Some}
use Rattle.std.proofs.lemmas.List.Sorted.{All-permutation, Contains-permutation, IsPermutation-sym}
use Rattle.pf_lemmas.proofs.Orders.{within_or}
use Rattle.pf_order.specs.declared.pick.Pick.{Pick}
use Rattle.pf_scenario.specs.Scenario.{Plan}
use Rattle.pf_scenario.specs.Edit.{IsScenario}
use Rattle.pf_scenario.specs.declared.event.Numbered.{Numbered}
use Rattle.pf_scenario.proofs.Sorting.{sorted_keeps}
use Rattle.pf_run.specs.Record.{Slot}
use Rattle.pf_run.specs.Inside.{Joined}
use Rattle.pf_run.specs.Run.{events_in_force, IsRun}
use Rattle.pf_run.proofs.Containing.{contains_head, contains_tail}
use Rattle.pf_tally.specs.declared.miss.Miss.{Miss}
use Rattle.pf_tally.specs.Figures.{tardiness_of, processors_in, figures_of_task, figures_of}
use Rattle.pf_tally.specs.Lags.{by_task, task_cmp}
use Rattle.pf_tally.specs.Misses.{due_of, ran_in, leaves_after, is_missed, miss_of, misses_of_task, miss_cmp, misses_of}
use Rattle.pf_tally.specs.Load.{overload_of}
use Rattle.pf_laws.specs.Promise.Laws.{TardinessCostsQuanta, TardinessIsBounded}
use Rattle.pf_laws.proofs.PromiseLemmas.Shifts.{no_slot}
use Rattle.pf_laws.proofs.PromiseLemmas.Joining.{all_joined, task_at-joined, is_known, known}
use Rattle.pf_laws.proofs.PromiseLemmas.Choosing.{IsInside, inside_is, runs_inside, picked_next}
use Rattle.pf_laws.proofs.PromiseLemmas.Presence.{inside_leaves_after}
use Rattle.pf_laws.proofs.PromiseLemmas.Ran.{miss_is}
use Rattle.pf_laws.proofs.PromiseLemmas.Overdue.{is_overdue_by}
use Rattle.pf_laws.proofs.PromiseLemmas.Waiting.{lateness_costs}
use Rattle.pf_laws.proofs.PromiseLemmas.Promises.{overload-rises}

-- what holds of each element that is made, holds of all

all_map : {X Y : Type 0} (f : X → Y) (P : Y → Type 0) (xs : List X) → ((x : X) → Contains xs x → P (f x)) → All P (map f xs)
all_map f P [] each = All-nil P
all_map f P (x ∷ xs) each =
    All-cons P (f x) (map f xs) (each x (contains_head x xs)) (all_map f P xs (λ y at. each y (contains_tail x xs y at)))

all_kept : {X Y : Type 0} (p : X → Bool) (f : X → Y) (P : Y → Type 0) (xs : List X) →
    ((x : X) → Contains xs x → p x ≡ true → P (f x)) → All P (map f (filter p xs))
all_kept p f P [] each = All-nil P
all_kept p f P (x ∷ xs) each =
    by (p x) refl (all_kept p f P xs (λ y at passes. each y (contains_tail x xs y at) passes)) where
      by : (b : Bool) → p x ≡ b → All P (map f (filter p xs)) → All P (map f (cond b (x ∷ filter p xs) (filter p xs)))
      by true passes rest = All-cons P (f x) (map f (filter p xs)) (each x (contains_head x xs) passes) rest
      by false fails rest = rest

all_flat : {X Y : Type 0} (f : X → List Y) (P : Y → Type 0) (xs : List X) → ((x : X) → Contains xs x → All P (f x)) →
    All P (flat_map f xs)
all_flat f P [] each = All-nil P
all_flat f P (x ∷ xs) each =
    All-append P (f x) (flat_map f xs) (each x (contains_head x xs))
    (all_flat f P xs (λ y at. each y (contains_tail x xs y at)))

module _ (s : Plan) (scenario : IsScenario s) (r : List Slot) (run : IsRun s (length r) r) where
  abbrev end_now : List Numbered
  end_now = events_in_force s r (length r)

  -- the cost of one miss
  abbrev Costs : Miss → Type 0
  Costs m = s.settings.base * tardiness_of m ≤ overload_of s r m.deadline

  miss_costs : (j : Joined) → Contains (all_joined s r) j → (i : ℕ) → is_missed r end_now j (suc i) ≡ true →
      Costs (miss_of r end_now j (suc i))
  miss_costs j at i missed = by (ran_in r j (suc i)) refl where
    by : (o : Option ℕ) → ran_in r j (suc i) ≡ o →
        s.settings.base * tardiness_of (record { task = j.task; sub = suc i; deadline = due_of r end_now j (suc i); ran = o })
        ≤ overload_of s r (due_of r end_now j (suc i))
    by None is = omega arith
    by (Some t) is =
        let it = position-Some (λ (d : Slot). list_any (λ (p : Pick). p.task == j.task && p.sub == suc i) d.picks) r t no_slot is in
        let next = picked_next s scenario r run t it.0 j.task i it.1 in
        let there : IsInside s scenario r run t it.0 j.task =
        inside_is s scenario r run t it.0 j.task (runs_inside s scenario r run t it.0 j.task next.0) in
        let after : leaves_after end_now j t ≡ true =
        subst (λ k. leaves_after end_now k t ≡ true) (task_at-joined s scenario r j at)
        (inside_leaves_after s scenario r run j.task (known s scenario r j.task (is_known s scenario r j at)) t t it.0 (omega arith) there.at) in
        ⊎_elim
        (λ (late : due_of r end_now j (suc i) ≤ t).
        let costs =
        lateness_costs s scenario r run t j (suc i) (omega (arith, it.0)) at
        (is_overdue_by s scenario r run j t (suc i) late after (omega (arith, next.1))) in
        omega (
          arith,
          costs,
          mul-le-mul_left s.settings.base
              (earlier t (due_of r end_now j (suc i))),
        ))
        (λ (early : t < due_of r end_now j (suc i)).
        let none : t - (due_of r end_now j (suc i) - 1) ≡ 0 = omega (arith, early) in
        omega (arith, ap (λ k. s.settings.base * k) none))
        (within_or (due_of r end_now j (suc i)) t)
      where
        earlier : (a b : ℕ) → a - (b - 1) ≤ a + 1 - b
        earlier a b = omega arith

  -- that of a task's misses, each due by the run's end
  of_task : (j : Joined) → Contains (all_joined s r) j → All (λ m. Costs m × (m.deadline ≤ length r)) (misses_of_task r end_now j)
  of_task j at =
      all_kept (is_missed r end_now j) (miss_of r end_now j) (λ m. Costs m × (m.deadline ≤ length r)) (range_with_len 1 (length r)) each
    where
      each : (i : ℕ) → Contains (range_with_len 1 (length r)) i → is_missed r end_now j i ≡ true →
          Costs (miss_of r end_now j i) × (due_of r end_now j i ≤ length r)
      each zero there missed =
          absurd
          (omega (
            arith,
            there.2,
            get_or-range_with_len 1 (length r) there.0 zero (omega (arith, there.1, length-range_with_len 1 (length r))),
          ))
      each (suc i) there missed = (miss_costs j at i missed, (miss_is s scenario r run j i missed).within)

  all_cost : All Costs (misses_of s r)
  unfolding misses_of
  all_cost =
      let all = flat_map (misses_of_task r end_now) (all_joined s r) in
      All-permutation Costs all (misses_of s r) (sorted_keeps miss_cmp all)
      (all_flat (misses_of_task r end_now) Costs (all_joined s r)
      (λ j at. All-weaker (λ m. Costs m × (m.deadline ≤ length r)) Costs (λ m both. both.0) (misses_of_task r end_now j) (of_task j at)))

  -- the greatest of them
  greatest_costs : (ms : List Miss) (most : ℕ) → s.settings.base * most ≤ overload_of s r (length r) →
      All (λ m. Costs m × (m.deadline ≤ length r)) ms →
      s.settings.base * fold (λ k m. max k (tardiness_of m)) most ms ≤ overload_of s r (length r)
  greatest_costs [] most bound all = bound
  greatest_costs (m ∷ ms) most bound all =
      greatest_costs ms (max most (tardiness_of m)) (either most (tardiness_of m) bound here)
      (All-tail (λ x. Costs x × (x.deadline ≤ length r)) m ms all)
    where
      here : s.settings.base * tardiness_of m ≤ overload_of s r (length r)
      here =
          let both = All-head (λ x. Costs x × (x.deadline ≤ length r)) m ms all in
          omega (arith, both.0, overload-rises s r m.deadline (length r) both.1)

      either : (a b : ℕ) → s.settings.base * a ≤ overload_of s r (length r) → s.settings.base * b ≤ overload_of s r (length r) →
          s.settings.base * max a b ≤ overload_of s r (length r)
      either a b first second = ⊎_elim
          (λ (lt : a < b). let is : max a b ≡ b = omega (arith, lt) in omega (arith, second, ap (λ k. s.settings.base * k) is))
          (λ (ge : b ≤ a). let is : max a b ≡ a = omega (arith, ge) in omega (arith, first, ap (λ k. s.settings.base * k) is))
          (cases_lt a b)

  all_bounded : (rows : List (List (Option Pick))) →
      All (λ f. s.settings.base * f.tardiness ≤ overload_of s r (length r)) (figures_of s r rows)
  unfolding figures_of
  all_bounded rows =
      all_map (λ j. figures_of_task r (processors_in rows j.task) end_now j)
      (λ f. s.settings.base * f.tardiness ≤ overload_of s r (length r)) (by_task (all_joined s r))
      (λ j there.
      greatest_costs (misses_of_task r end_now j) 0 (omega arith)
      (of_task j
      (Contains-permutation (by_task (all_joined s r)) (all_joined s r) j
      (IsPermutation-sym (all_joined s r) (by_task (all_joined s r)) (sorted_keeps task_cmp (all_joined s r))) there)))

pub tardiness_costs_quanta : TardinessCostsQuanta
tardiness_costs_quanta s n r scenario run = all_cost s scenario r (subst (λ k. IsRun s k r) (sym run.slots) run)

pub tardiness_is_bounded : TardinessIsBounded
tardiness_is_bounded s n r rows scenario run =
    subst (λ k. All (λ f. s.settings.base * f.tardiness ≤ overload_of s r k) (figures_of s r rows)) run.slots
    (all_bounded s scenario r (subst (λ k. IsRun s k r) (sym run.slots) run) rows)
