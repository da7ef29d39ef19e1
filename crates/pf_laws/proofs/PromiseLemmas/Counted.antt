-- Misses cost quanta: those with one deadline are overdue at it.
use Rattle.std.proofs.Common.{◌≡◌, ℕ, zero, suc, ◌+◌, ◌*◌, ◌<◌, ◌≤◌, ◌==◌, ◌&&◌, Bool, true, false, cond, List, [], ◌∷◌, length, filter, sum_by, count_by, Contains, arith, refl, ap, sym, ◌∙◌, subst, ⊎_elim}
use Rattle.std.specs.List.{flat_map, range_with_len}
use Rattle.std.proofs.Math.Nat.{mul-le-mul_left}
use Rattle.std.proofs.lemmas.Bool.{cases_lt, and_parts, eqb-true}
use Rattle.std.proofs.lemmas.List.Elements.{Contains-append_left, Contains-append_right}
use Rattle.std.proofs.lemmas.List.Sorted.{Contains-permutation, sum_by-IsPermutation}
use Rattle.std.proofs.lemmas.List.Sums.{sum_by-cons, sum_by-append}
use Rattle.pf_lemmas.proofs.Ranges.{in_range}
use Rattle.pf_scenario.specs.Scenario.{Plan}
use Rattle.pf_scenario.specs.Edit.{IsScenario}
use Rattle.pf_scenario.specs.declared.event.Numbered.{Numbered}
use Rattle.pf_scenario.proofs.Sorting.{sorted_keeps}
use Rattle.pf_run.specs.Record.{Slot, done}
use Rattle.pf_run.specs.Inside.{Joined}
use Rattle.pf_run.specs.Run.{events_in_force, IsRun}
use Rattle.pf_run.proofs.Containing.{contains_none, contains_head, contains_tail, contains_cases, in_filter}
use Rattle.pf_run.proofs.Counting.{sum_by-map}
use Rattle.pf_tally.proofs.Contents.{in_map}
use Rattle.pf_tally.specs.declared.miss.Miss.{Miss}
use Rattle.pf_tally.specs.Misses.{due_of, leaves_after, is_missed, miss_of, misses_of_task, miss_cmp, misses_of}
use Rattle.pf_laws.proofs.IdealLemmas.Sums.{one, one-mono}
use Rattle.pf_tally.specs.Load.{overload_of}
use Rattle.pf_laws.specs.Promise.Overdue.{is_overdue, overdue_of_task, overdue_of}
use Rattle.pf_laws.specs.Promise.Laws.{MissesCostQuanta}
use Rattle.pf_laws.proofs.PromiseLemmas.Joining.{all_joined, task_at-joined, is_known, known}
use Rattle.pf_laws.proofs.PromiseLemmas.Presence.{due_late}
use Rattle.pf_laws.proofs.PromiseLemmas.Ran.{IsMiss, miss_is}
use Rattle.pf_laws.proofs.PromiseLemmas.Overdue.{is_overdue_by, overdue_costs}

-- what a list of lists has

in_flat_map : {X Y : Type 0} (f : X → List Y) (xs : List X) (x : X) (y : Y) → Contains xs x → Contains (f x) y →
    Contains (flat_map f xs) y
in_flat_map f [] x y at there = absurd (contains_none x at)
in_flat_map f (z ∷ zs) x y at there = ⊎_elim
    (λ same. Contains-append_left (f z) (flat_map f zs) y (subst (λ w. Contains (f w) y) (sym same) there))
    (λ later. Contains-append_right (f z) (flat_map f zs) y (in_flat_map f zs x y later there))
    (contains_cases z zs x at)

-- counts

count_by-filter : (p q : ℕ → Bool) (xs : List ℕ) → count_by p (filter q xs) ≡ count_by (λ x. q x && p x) xs
count_by-filter p q [] = refl
count_by-filter p q (x ∷ xs) =
    omega (arith, sum_by-cons (λ y. one (q y && p y)) x xs, count_by-filter p q xs, kept (q x)) where
      kept : (b : Bool) → count_by p (cond b (x ∷ filter q xs) (filter q xs)) ≡ one (b && p x) + count_by p (filter q xs)
      kept true = omega (arith, sum_by-cons (λ y. one (p y)) x (filter q xs))
      kept false = omega arith

-- where the numbers that pass lie below a + m, and pass the other test, that is counted up to there
count_within : (p q : ℕ → Bool) (a n m : ℕ) → ((i : ℕ) → a ≤ i → p i ≡ true → (q i ≡ true) × (i < a + m)) →
    count_by p (range_with_len a n) ≤ count_by q (range_with_len a m)
count_within p q a zero m imp = omega arith
count_within p q a (suc n) zero imp =
    omega (
      arith,
      sum_by-cons (λ i. one (p i)) a (range_with_len (a + 1) n),
      one-mono (p a) false (λ h. absurd (omega (arith, (imp a (omega arith) h).1))),
      count_within p q (a + 1) n 0
          (λ i from h. absurd (omega (arith, from, (imp i (omega (arith, from)) h).1))),
    )
count_within p q a (suc n) (suc m) imp =
    omega (
      arith,
      sum_by-cons (λ i. one (p i)) a (range_with_len (a + 1) n),
      sum_by-cons (λ i. one (q i)) a (range_with_len (a + 1) m),
      one-mono (p a) (q a) (λ h. (imp a (omega arith) h).0),
      count_within p q (a + 1) n m
          (λ i from h. let it = imp i (omega (arith, from)) h in (it.0, omega (arith, it.1))),
    )

module _ (s : Plan) (scenario : IsScenario s) (r : List Slot) (run : IsRun s (length r) r) where
  abbrev end_now : List Numbered
  end_now = events_in_force s r (length r)

  abbrev is_due_at : ℕ → Miss → Bool
  is_due_at due m = m.deadline == due

  pub in_misses : (j : Joined) → Contains (all_joined s r) j → (i : ℕ) → i < length r → is_missed r end_now j (suc i) ≡ true →
      Contains (misses_of s r) (miss_of r end_now j (suc i))
  unfolding misses_of
  in_misses j at i lt missed =
      let all = flat_map (misses_of_task r end_now) (all_joined s r) in
      Contains-permutation all (misses_of s r) (miss_of r end_now j (suc i)) (sorted_keeps miss_cmp all)
      (in_flat_map (misses_of_task r end_now) (all_joined s r) j (miss_of r end_now j (suc i)) at
      (in_map (miss_of r end_now j) (filter (is_missed r end_now j) (range_with_len 1 (length r))) (suc i)
      (in_filter (is_missed r end_now j) (range_with_len 1 (length r)) (suc i) (in_range (length r) i lt) missed)))

  -- a subtask that was missed with the deadline is overdue at it
  missed_overdue : (due : ℕ) (j : Joined) → Contains (all_joined s r) j → (i : ℕ) → 1 ≤ i →
      (is_missed r end_now j i && (due_of r end_now j i == due)) ≡ true →
      (is_overdue r end_now j due i ≡ true) × (due ≤ length r) × (i ≤ due)
  missed_overdue due j at zero some both = absurd (omega (arith, some))
  missed_overdue due j at (suc i) some both =
      let parts = and_parts (is_missed r end_now j (suc i)) (due_of r end_now j (suc i) == due) both in
      let is : due_of r end_now j (suc i) ≡ due = eqb-true (due_of r end_now j (suc i)) due parts.1 in
      let it : IsMiss s scenario r run j i = miss_is s scenario r run j i parts.0 in
      let late : suc i ≤ due_of r end_now j (suc i) =
      subst (λ z. suc i ≤ due_of r end_now z (suc i)) (task_at-joined s scenario r j at)
      (due_late s scenario r run j.task (known s scenario r j.task (is_known s scenario r j at)) (suc i)) in (
        is_overdue_by s scenario r run j due (suc i) (omega (arith, is))
            (subst (λ x. leaves_after end_now j x ≡ true) is it.after)
            (omega (arith, it.late, ap (λ x. done r j.task x) is)),
        omega (arith, it.within, is),
        omega (arith, late, is),
      )

  -- the misses with a deadline are counted by tasks
  count_of_task : (due : ℕ) (j : Joined) → count_by (is_due_at due) (misses_of_task r end_now j)
      ≡ count_by (λ i. is_missed r end_now j i && (due_of r end_now j i == due)) (range_with_len 1 (length r))
  count_of_task due j =
      sum_by-map (λ m. one (is_due_at due m)) (miss_of r end_now j) (filter (is_missed r end_now j) (range_with_len 1 (length r)))
      ∙ count_by-filter (λ i. due_of r end_now j i == due) (is_missed r end_now j) (range_with_len 1 (length r))

  of_tasks : (due : ℕ) (f : Joined → ℕ) (js : List Joined) →
      ((j : Joined) → Contains js j → count_by (is_due_at due) (misses_of_task r end_now j) ≤ f j) →
      count_by (is_due_at due) (flat_map (misses_of_task r end_now) js) ≤ sum_by f js
  of_tasks due f [] each = omega arith
  of_tasks due f (j ∷ js) each =
      omega (
        arith,
        sum_by-append (λ m. one (is_due_at due m)) (misses_of_task r end_now j) (flat_map (misses_of_task r end_now) js),
        sum_by-cons f j js,
        each j (contains_head j js),
        of_tasks due f js (λ k at. each k (contains_tail j js k at)),
      )

  by_tasks : (due : ℕ) (f : Joined → ℕ) →
      ((j : Joined) → Contains (all_joined s r) j → count_by (is_due_at due) (misses_of_task r end_now j) ≤ f j) →
      count_by (is_due_at due) (misses_of s r) ≤ sum_by f (all_joined s r)
  unfolding misses_of
  by_tasks due f each =
      let all = flat_map (misses_of_task r end_now) (all_joined s r) in
      omega (
        arith,
        sum_by-IsPermutation (λ m. one (is_due_at due m)) all (misses_of s r) (sorted_keeps miss_cmp all),
        of_tasks due f (all_joined s r) each,
      )

  -- no miss has a deadline beyond the run
  pub none_beyond : (due : ℕ) → length r < due → count_by (is_due_at due) (misses_of s r) ≡ 0
  none_beyond due past =
      omega (
        arith,
        by_tasks due (λ j. 0)
            (λ j at.
            omega (
              arith,
              count_of_task due j,
              count_within (λ i. is_missed r end_now j i && (due_of r end_now j i == due)) (λ i. false) 1 (length r) 0
                  (λ i some both. absurd (omega (arith, past, (missed_overdue due j at i some both).1))),
            )),
        sum_by-zero (all_joined s r),
      ) where
        sum_by-zero : (js : List Joined) → sum_by (λ (j : Joined). 0) js ≡ 0
        sum_by-zero [] = refl
        sum_by-zero (j ∷ js) = omega (arith, sum_by-cons (λ (k : Joined). 0) j js, sum_by-zero js)

  missed_few : (due : ℕ) → count_by (is_due_at due) (misses_of s r) ≤ overdue_of s r due
  unfolding overdue_of
  missed_few due =
      by_tasks due (λ j. overdue_of_task r end_now j due)
      (λ j at.
      omega (
        arith,
        count_of_task due j,
        count_within (λ i. is_missed r end_now j i && (due_of r end_now j i == due)) (is_overdue r end_now j due) 1 (length r) due
            (λ i some both. let it = missed_overdue due j at i some both in (it.0, omega (arith, it.2))),
      ))

  quanta : (due : ℕ) → s.settings.base * count_by (is_due_at due) (misses_of s r) ≤ overload_of s r due
  quanta due = ⊎_elim
      (λ (past : length r < due). omega (arith, ap (λ k. s.settings.base * k) (none_beyond due past)))
      (λ (le : due ≤ length r).
      omega (arith, mul-le-mul_left s.settings.base (missed_few due), overdue_costs s scenario r run due le))
      (cases_lt (length r) due)

pub misses_cost_quanta : MissesCostQuanta
misses_cost_quanta s n r due scenario run = quanta s scenario r (subst (λ t. IsRun s t r) (sym run.slots) run) due
