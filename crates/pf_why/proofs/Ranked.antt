-- A ranking: what a sort leaves is the order of PD2, and its first subtasks are the picks of the slot.
use Rattle.std.proofs.Common.{◌≡◌, ◌≢◌, ◌∙◌, ℕ, suc, filter_map, map, get_or, Some, List, [], ◌∷◌, AllPairs, IsPermutation, refl, sym, ap, subst}
use Rattle.std.specs.Cmp.{IsTotalOrder}
use Rattle.std.specs.Ordering.{is_lt}
use Rattle.std.specs.List.Sorted.{IsSortedBy}
use Rattle.std.proofs.lemmas.Cmp.{on_total}
use Rattle.std.proofs.lemmas.List.Kept.{AllPairs-filter}
use Rattle.pf_order.proofs.Order.{apart, priority_cmp_total}
use Rattle.pf_scenario.specs.Edit.{IsScenario}
use Rattle.pf_scenario.specs.Scenario.{Plan}
use Rattle.pf_run.specs.Record.{Slot, denials_of}
use Rattle.pf_run.specs.Inside.{Joined, inside}
use Rattle.pf_run.proofs.Containing.{pairs_filter_map}
use Rattle.pf_run.proofs.Joins.{inside_differ, joins_once_in_force}
use Rattle.pf_tally.proofs.Sorts.{one_sorted, NoTies}
use Rattle.pf_why.specs.declared.subtask.Subtask.{Subtask}
use Rattle.pf_why.specs.Ranking.{candidates_in, may_run, next_of, priority_of, rank_cmp, ranking_in, standing_in}

pub rank_total : IsTotalOrder rank_cmp
rank_total = on_total priority_of priority_cmp_total

-- candidates are of different tasks
pub some_of_all : {X Y : Type 0} (f : X → Y) (xs : List X) → filter_map (λ x. Some (f x)) xs ≡ map f xs
some_of_all f [] = refl
some_of_all f (x ∷ xs) = ap (λ ys. f x ∷ ys) (some_of_all f xs)

pub tasks_differ : (s : Plan) (r : List Slot) (t : ℕ) → IsScenario s → AllPairs (λ x y. x.task ≢ y.task) (candidates_in s r t)
tasks_differ s r t scenario =
    let xs = standing_in s r t in
    let f = next_of r xs t in
    let S : Subtask → Subtask → Type 0 = λ x y. x.task ≢ y.task in
    let once = joins_once_in_force s (suc t) (denials_of r) scenario in
    let all : AllPairs S (filter_map (λ j. Some (f j)) (inside s.settings.base xs)) =
    pairs_filter_map (λ (a : Joined) b. a.task ≢ b.task) S (λ j. Some (f j))
    (λ a b x y is_x is_y differ same. differ (task_is f (λ j. refl) a x is_x ∙ same ∙ sym (task_is f (λ j. refl) b y is_y)))
    (inside s.settings.base xs) (inside_differ s.settings.base xs once) in
    AllPairs-filter S (may_run t) (map f (inside s.settings.base xs))
    (subst (λ ys. AllPairs S ys) (some_of_all f (inside s.settings.base xs)) all)
  where
    task_is : (f : Joined → Subtask) → ((j : Joined) → (f j).task ≡ j.task) → (j : Joined) (x : Subtask) → Some (f j) ≡ Some x → j.task ≡ x.task
    task_is f same j x is = sym (same j) ∙ ap (λ (y : Subtask). y.task) (let e : f j ≡ x = cc in e)

pub none_tie : (s : Plan) (r : List Slot) (t : ℕ) → IsScenario s → NoTies rank_total (candidates_in s r t)
none_tie s r t scenario =
    let differ = tasks_differ s r t scenario in
    λ i j d before within. apart (priority_of (get_or (candidates_in s r t) i d)) (priority_of (get_or (candidates_in s r t) j d)) (differ i j d before within)

-- Use: what a sort left of the candidates is the ranking.
pub ranked_is : (s : Plan) (r : List Slot) (t : ℕ) (found ranked : List Subtask) → IsScenario s → found ≡ candidates_in s r t →
    IsPermutation found ranked → IsSortedBy (λ x y. is_lt (rank_cmp x y)) ranked → ranked ≡ ranking_in s r t
unfolding ranking_in
ranked_is s r t found ranked scenario is same up =
    one_sorted rank_total (candidates_in s r t) ranked (none_tie s r t scenario)
    (subst (λ xs. IsPermutation xs ranked) is same) up
