-- The lags of tasks that are never held back: their clocks run through, so a lag is 0 just where the task has its share.
use Rattle.std.proofs.Common.{◌≡◌, ℕ, ◌-◌, ◌*◌, true, not, List, [], ◌∷◌, ◌++◌, length, count_by, All, Contains, arith, refl, ap, sym, ◌∙◌, subst}
use Rattle.std.specs.Prelude.{pos, ◌-ℤ◌}
use Rattle.std.specs.List.{range_with_len}
use Rattle.std.proofs.lemmas.Int.{ints}
use Rattle.std.proofs.lemmas.List.Elements.{All-head, All-tail, All-weaker, All-contains_itself, All-contains}
use Rattle.std.proofs.lemmas.List.FromFn.{length-range_with_len}
use Rattle.pf_scenario.specs.Scenario.{Plan}
use Rattle.pf_scenario.specs.declared.event.Event.{Event}
use Rattle.pf_scenario.specs.declared.event.Event.TheVariants.{Join, Leave, Delay, Limit}
use Rattle.pf_scenario.specs.declared.event.Numbered.{Numbered}
use Rattle.pf_run.specs.Record.{Slot, done}
use Rattle.pf_run.specs.Inside.{Joined}
use Rattle.pf_run.specs.Run.{events_in_force}
use Rattle.pf_run.proofs.Counting.{count_by-cons}
use Rattle.pf_tally.specs.Clock.{Stop, stop_by, stops_behind, is_stopped, clock_of}
use Rattle.pf_tally.specs.Figures.{scaled_at}
use Rattle.pf_laws.specs.Repetition.Synchronous.{JoinsAtStart, IsSynchronous, tasks_in, AreEven}
use Rattle.pf_laws.proofs.RepetitionLemmas.Start.{AllJoin, begins_joined, all_join}

-- after t slots each task has received exactly its share of them
abbrev pub HaveShares : Plan → List Slot → ℕ → Type 0
HaveShares s r t = All (λ j. j.weight.period * done r j.task t ≡ j.weight.cost * t) (tasks_in s r)

-- nothing is received, and nothing is owed, before slot 0
pub shares_at_first : (s : Plan) (r : List Slot) (t : ℕ) → t ≡ 0 → HaveShares s r t
unfolding done
shares_at_first s r t none =
    subst (λ u. HaveShares s r u) (sym none)
    (All-weaker (Contains (tasks_in s r)) (λ j. j.weight.period * done r j.task 0 ≡ j.weight.cost * 0) (λ j at. omega arith)
    (tasks_in s r) (All-contains_itself (tasks_in s r)))

never_stops : (r : List Slot) (before : List Numbered) (j : Joined) (event : Event) → JoinsAtStart event → stop_by r before j event ≡ []
never_stops r before j (Join slot task cost period early) joins = refl
never_stops r before j (Leave slot task) joins = refl
never_stops r before j (Delay slot task by) joins = absurd joins
never_stops r before j (Limit slot count) joins = refl

none_stops : (r : List Slot) (j : Joined) (before xs : List Numbered) → AllJoin xs → stops_behind r j before xs ≡ []
none_stops r j before [] all = refl
none_stops r j before (x ∷ xs) all =
    ap (λ stops. stops ++ stops_behind r j (before ++ x ∷ []) xs)
    (never_stops r before j x.event (All-head (λ y. JoinsAtStart y.event) x xs all))
    ∙ none_stops r j (before ++ x ∷ []) xs (All-tail (λ y. JoinsAtStart y.event) x xs all)

all_counted : (xs : List ℕ) → count_by (λ (u : ℕ). true) xs ≡ length xs
all_counted [] = refl
all_counted (x ∷ xs) = omega (arith, count_by-cons (λ (u : ℕ). true) x xs, all_counted xs)

clock_runs : (r : List Slot) (xs : List Numbered) (j : Joined) (t : ℕ) → AllJoin xs → j.slot ≡ 0 → clock_of r xs j t ≡ t
unfolding clock_of
clock_runs r xs j t all start =
    let through : clock_of r xs j t ≡ length (range_with_len j.slot (t - j.slot)) =
    ap (λ (stops : List Stop). count_by (λ u. not (is_stopped stops u)) (range_with_len j.slot (t - j.slot))) (none_stops r j [] xs all)
    ∙ all_counted (range_with_len j.slot (t - j.slot)) in
    omega (arith, through, length-range_with_len j.slot (t - j.slot), start)

even_from : (a b : ℕ) → b ≡ a → pos a -ℤ pos b ≡ pos 0
even_from a b same = omega (arith, ints)

even_to : (a b : ℕ) → pos a -ℤ pos b ≡ pos 0 → b ≡ a
even_to a b even = omega (arith, ints)

module _ (s : Plan) (start : IsSynchronous s) (r : List Slot) (t : ℕ) where
  abbrev now : List Numbered
  now = events_in_force s r (length r)

  clock_is : (j : Joined) → Contains (tasks_in s r) j → clock_of r now j t ≡ t
  clock_is j at =
      clock_runs r now j t (all_join s start r (length r)) (begins_joined s.settings.base now j (all_join s start r (length r)) at).slot

  pub shares_to_even : HaveShares s r t → AreEven s r t
  shares_to_even shares =
      All-weaker (Contains (tasks_in s r)) (λ j. scaled_at r now j t ≡ pos 0)
      (λ j at.
      ap (λ clock. pos (j.weight.cost * clock) -ℤ pos (j.weight.period * done r j.task t)) (clock_is j at)
      ∙ even_from (j.weight.cost * t) (j.weight.period * done r j.task t)
      (All-contains (λ i. i.weight.period * done r i.task t ≡ i.weight.cost * t) (tasks_in s r) j shares at))
      (tasks_in s r) (All-contains_itself (tasks_in s r))

  pub even_to_shares : AreEven s r t → HaveShares s r t
  even_to_shares even =
      All-weaker (Contains (tasks_in s r)) (λ j. j.weight.period * done r j.task t ≡ j.weight.cost * t)
      (λ j at.
      even_to (j.weight.cost * t) (j.weight.period * done r j.task t)
      (ap (λ clock. pos (j.weight.cost * clock) -ℤ pos (j.weight.period * done r j.task t)) (sym (clock_is j at))
      ∙ All-contains (λ i. scaled_at r now i t ≡ pos 0) (tasks_in s r) j even at))
      (tasks_in s r) (All-contains_itself (tasks_in s r))
