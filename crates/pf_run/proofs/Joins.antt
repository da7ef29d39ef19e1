-- No task joins twice, or leaves twice, among the events of a run's past; so no two eligible subtasks are of one task.
use Rattle.std.proofs.Common.{◌≡◌, ◌≢◌, ℕ, zero, suc, ◌<◌, Bool, true, false, not, ◌==◌, nat_le, List, [], ◌∷◌, length, get_or, filter, filter_map, Option, Some, None, AllPairs, Contains, ⊎_elim, sym, ap, ◌∙◌, arith, eq-eqb}
use Rattle.std.proofs.lemmas.Bool.{true≢false, false_from_ne_true, eqb-false, eqb-true}
use Rattle.std.proofs.lemmas.Option.{cond_some}
use Rattle.std.proofs.lemmas.List.Elements.{Contains-get_or, Contains-append_cases}
use Rattle.std.proofs.lemmas.List.Folds.{list_any_at}
use Rattle.std.proofs.lemmas.List.Sorted.{IsPermutation-sym, Contains-permutation}
use Rattle.std.proofs.lemmas.List.Kept.{AllPairs-filter, AllPairs-cons}
use Rattle.pf_place.specs.Priority.{Priority}
use Rattle.pf_scenario.specs.Event.{slot_of, is_of_slot, run_cmp, in_run_order}
use Rattle.pf_scenario.specs.Scenario.{Plan, is_held, events_of, past}
use Rattle.pf_scenario.specs.Edit.{IsScenario, join_alike}
use Rattle.pf_scenario.specs.declared.event.Event.{Event}
use Rattle.pf_scenario.specs.declared.event.Event.TheVariants.{Join}
use Rattle.pf_scenario.specs.declared.event.Numbered.{Numbered}
use Rattle.pf_scenario.proofs.Scenarios.{join_alike_back}
use Rattle.pf_scenario.proofs.Sorting.{sorted_keeps}
use Rattle.pf_run.specs.declared.denied.Denied.{Denied}
use Rattle.pf_run.specs.Record.{Slot, is_denied, in_force}
use Rattle.pf_run.specs.Inside.{Joined, joined_by, join_of, inside, has_left, ready, ready_key, next_key, member_of, eligible_from}
use Rattle.pf_run.proofs.Containing.{contains_none, from_filter, pairs_cases, pairs_filter_map}
use Rattle.pf_run.proofs.Numbers.{AreApart, apart_past}
use Rattle.pf_run.proofs.Firsts.{TasksDiffer}

-- the past holds events of the scenario
contains_in_run_order : (xs : List Numbered) (k : Numbered) → Contains (in_run_order xs) k → Contains xs k
contains_in_run_order xs k at =
    Contains-permutation (in_run_order xs) xs k (IsPermutation-sym xs (in_run_order xs) (sorted_keeps run_cmp xs)) at

pub contains_events_of : (s : Plan) (t : ℕ) (k : Numbered) → Contains (events_of s t) k → Contains s.events k × (is_of_slot t k ≡ true)
unfolding events_of
contains_events_of s t k at = from_filter (is_of_slot t) s.events k (contains_in_run_order (filter (is_of_slot t) s.events) k at)

pub contains_past : (s : Plan) (t : ℕ) (k : Numbered) → Contains (past s t) k → Contains s.events k
contains_past s zero k at = absurd (contains_none k at)
contains_past s (suc t) k at = ⊎_elim
    (λ early. contains_past s t k early)
    (λ last. (contains_events_of s t k last).0)
    (Contains-append_cases (past s t) (events_of s t) k at)

-- Use: each event of the past of t is of a slot below t.
pub past_below : (s : Plan) (t : ℕ) (k : Numbered) → Contains (past s t) k → slot_of k.event < t
past_below s zero k at = absurd (contains_none k at)
past_below s (suc t) k at = ⊎_elim
    (λ early. let below : slot_of k.event < t = past_below s t k early in omega arith)
    (λ last. let is : slot_of k.event ≡ t = eqb-true (slot_of k.event) t (contains_events_of s t k last).1 in omega arith)
    (Contains-append_cases (past s t) (events_of s t) k at)

-- numbers that differ, by place
held_from_contains : (xs : List Numbered) (k : Numbered) → Contains xs k → is_held xs k.id ≡ true
held_from_contains xs k at = list_any_at (λ x. x.id == k.id) xs at.0 k at.1 (eq-eqb _ _ (ap (λ x. x.id) at.2))

pub pairs_from_apart : (xs : List Numbered) → AreApart xs → AllPairs (λ x y. x.id ≢ y.id) xs
pairs_from_apart [] apart = λ i j d before within. absurd (omega arith)
pairs_from_apart (x ∷ xs) apart = AllPairs-cons (λ x y. x.id ≢ y.id) x xs
    (λ k d within same. true≢false
    (sym (held_from_contains xs (get_or xs k d) (Contains-get_or xs k d within)) ∙ ap (is_held xs) (sym same) ∙ apart.0))
    (pairs_from_apart xs apart.1)

-- events of a scenario that are alike are one event; so of those with numbers that differ no two are alike
module _ (alike : Event → Event → Bool) (symmetric : (x y : Event) → alike x y ≡ alike y x) where
  one_alike : (events : List Numbered) → AllPairs (λ x y. alike x.event y.event ≡ false) events → (x y : Numbered) →
      Contains events x → Contains events y → alike x.event y.event ≡ true → x ≡ y
  one_alike events once x y at_x at_y same = ⊎_elim
      (λ e. e)
      (λ apart. absurd (true≢false (⊎_elim
      (λ e. sym same ∙ e)
      (λ e. sym same ∙ symmetric x.event y.event ∙ e)
      apart)))
      (pairs_cases (λ x y. alike x.event y.event ≡ false) events x y once at_x at_y)

  once_among : (events xs : List Numbered) → AllPairs (λ x y. alike x.event y.event ≡ false) events → AreApart xs →
      ((k : Numbered) → Contains xs k → Contains events k) → AllPairs (λ x y. alike x.event y.event ≡ false) xs
  once_among events xs once apart within i j d before inside =
      false_from_ne_true _ (λ same. pairs_from_apart xs apart i j d before inside
      (ap (λ x. x.id) (one_alike events once (get_or xs i d) (get_or xs j d)
      (within _ (Contains-get_or xs i d (omega arith))) (within _ (Contains-get_or xs j d inside)) same)))

-- Use: no task joins twice, or leaves twice, among the events of the slots below t.
pub joins_once_past : (s : Plan) (t : ℕ) → IsScenario s → AllPairs (λ x y. join_alike x.event y.event ≡ false) (past s t)
joins_once_past s t scenario =
    once_among join_alike join_alike_back s.events (past s t) scenario.joins_once (apart_past s t scenario) (contains_past s t)

-- the joins differ in task, so the tasks inside do, so the eligible subtasks do
task_of_joined : Option Joined → ℕ
task_of_joined None = 0
task_of_joined (Some j) = j.task

joins_carry : (base : ℕ) (x y : Event) (a b : Joined) → joined_by base x ≡ Some a → joined_by base y ≡ Some b →
    join_alike x y ≡ false → a.task ≢ b.task
unfolding task_of_joined
joins_carry base (Join slot task cost period early) (Join slot' task' cost' period' early') a b is_a is_b apart same =
    eqb-false task task' apart (ap task_of_joined is_a ∙ same ∙ sym (ap task_of_joined is_b))
joins_carry base (Join slot task cost period early) y a b is_a is_b apart same = cc
joins_carry base x y a b is_a is_b apart same = cc

-- Use: those who joined are of different tasks, and so are those inside.
pub joined_differ : (base : ℕ) (xs : List Numbered) → AllPairs (λ x y. join_alike x.event y.event ≡ false) xs →
    AllPairs (λ a b. a.task ≢ b.task) (filter_map (join_of base) xs)
joined_differ base xs once =
    pairs_filter_map (λ x y. join_alike x.event y.event ≡ false) (λ a b. a.task ≢ b.task) (join_of base)
    (λ x y a b is_a is_b apart. joins_carry base x.event y.event a b is_a is_b apart) xs once

pub inside_differ : (base : ℕ) (xs : List Numbered) → AllPairs (λ x y. join_alike x.event y.event ≡ false) xs →
    AllPairs (λ a b. a.task ≢ b.task) (inside base xs)
unfolding inside
inside_differ base xs once =
    AllPairs-filter (λ a b. a.task ≢ b.task) (λ j. not (has_left xs j.task)) (filter_map (join_of base) xs) (joined_differ base xs once)

pub key_task : (t : ℕ) (r : List Slot) (xs : List Numbered) (j : Joined) (k : Priority) →
    ready_key t j.task (member_of r xs j) ≡ Some k → k.task ≡ j.task
key_task t r xs j k is = ap (λ k. k.task) (sym (cond_some (nat_le (eligible_from (member_of r xs j)) t) (next_key j.task (member_of r xs j)) k is).1)

pub ready_differ : (base : ℕ) (r : List Slot) (xs : List Numbered) → AllPairs (λ x y. join_alike x.event y.event ≡ false) xs →
    TasksDiffer (ready base r xs)
unfolding ready
ready_differ base r xs once =
    pairs_filter_map (λ a b. a.task ≢ b.task) (λ x y. x.task ≢ y.task) (λ j. ready_key (length r) j.task (member_of r xs j))
    (λ i j a b is_a is_b apart same. apart (sym (key_task (length r) r xs i a is_a) ∙ same ∙ key_task (length r) r xs j b is_b))
    (inside base xs) (inside_differ base xs once)

-- Use: of the events in force among those of the slots below t.
pub joins_once_in_force : (s : Plan) (t : ℕ) (denials : List Denied) → IsScenario s →
    AllPairs (λ x y. join_alike x.event y.event ≡ false) (in_force denials (past s t))
unfolding in_force
joins_once_in_force s t denials scenario =
    AllPairs-filter (λ x y. join_alike x.event y.event ≡ false) (λ x. not (is_denied denials x)) (past s t) (joins_once_past s t scenario)
