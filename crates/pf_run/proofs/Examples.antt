-- The worked examples are runs: each is computed, and the computed run is the run.
use Rattle.std.proofs.Common.{◌≡◌, ℕ, ◌+◌, ◌^◌, ◌<◌, Bool, true, not, ◌&&◌, ltb, leb, List, [], ◌∷◌, length, get_or, Option, None, Some, is_none, AllPairs, inl, refl, subst, arith}
use Rattle.std.specs.List.{list_all}
use Rattle.std.proofs.lemmas.Bool.{and_parts, ltb-true, leb-true, not-true}
use Rattle.std.proofs.lemmas.List.Kept.{AllPairs-cons}
use Rattle.std.proofs.lemmas.List.Sums.{AllPass-from_list_all}
use Rattle.pf_admit.specs.Window.{release_of, deadline_of, bit_of}
use Rattle.pf_admit.specs.Group.{group_of}
use Rattle.pf_place.specs.Priority.{priority_cmp}
use Rattle.pf_scenario.specs.System.{near_horizon}
use Rattle.pf_scenario.specs.Event.{run_cmp}
use Rattle.pf_scenario.specs.Scenario.{Plan, events_of}
use Rattle.pf_scenario.specs.Edit.{IsScenario, event_fault, join_alike, leave_alike}
use Rattle.pf_scenario.specs.declared.scenario.TheConstants.{MOST_EVENTS, LAST_NUMBER}
use Rattle.pf_scenario.specs.declared.event.Numbered.{Numbered}
use Rattle.pf_scenario.specs.declared.fault.EditFault.{EditFault}
use Rattle.pf_run.specs.Record.{Slot, done, in_force}
use Rattle.pf_run.specs.Inside.{inside, load_of, count_of, shift_of, member_of, ready}
use Rattle.pf_run.specs.Run.{IsRun}
use Rattle.pf_run.specs.Computed.{course_of, run_of}
use Rattle.pf_run.specs.Examples.{OrderExamples, DelayExamples, LeaveExamples, LimitExamples, WorkedExamples}
use Rattle.pf_run.proofs.Runs.{run_is_computed}

-- whether a scenario of near horizon is one: a test that computes
abbrev pairs_pass : (Numbered → Numbered → Bool) → List Numbered → Bool
pairs_pass test [] = true
pairs_pass test (x ∷ xs) = list_all (test x) xs && pairs_pass test xs

abbrev tests_of : Plan → List Bool
tests_of s =
    leb 1 s.settings.processors ∷ leb s.settings.processors 64 ∷ leb 1 s.settings.base ∷ leb s.settings.base (2 ^ 30)
    ∷ leb 1 s.settings.cap ∷ leb s.settings.cap (2 ^ 44)
    ∷ pairs_pass (λ x y. ltb x.id y.id) s.events
    ∷ list_all (λ x. leb 1 x.id) s.events ∷ list_all (λ x. ltb x.id s.next) s.events
    ∷ leb 1 s.next ∷ leb s.next (LAST_NUMBER + 1)
    ∷ pairs_pass (λ x y. not (join_alike x.event y.event)) s.events
    ∷ pairs_pass (λ x y. not (leave_alike x.event y.event)) s.events
    ∷ list_all (λ x. is_none (event_fault s.settings [] x.event)) s.events
    ∷ leb (length s.events) MOST_EVENTS
    ∷ []

abbrev passes : Plan → Bool
passes s = list_all (λ b. b) (tests_of s)

pairs_from_test : (test : Numbered → Numbered → Bool) (xs : List Numbered) → pairs_pass test xs ≡ true →
    AllPairs (λ x y. test x y ≡ true) xs
pairs_from_test test [] all = λ i j d before within. absurd (omega arith)
pairs_from_test test (x ∷ xs) all =
    let parts = and_parts (list_all (test x) xs) (pairs_pass test xs) all in
    AllPairs-cons (λ x y. test x y ≡ true) x xs (AllPass-from_list_all (test x) xs parts.0) (pairs_from_test test xs parts.1)

none_from_test : (o : Option EditFault) → is_none o ≡ true → o ≡ None
none_from_test None none = refl
none_from_test (Some fault) none = cc

scenario_from_test : (s : Plan) → s.settings.horizon ≡ near_horizon → passes s ≡ true → IsScenario s
scenario_from_test s near all =
    let each : (k : ℕ) → k < 15 → get_or (tests_of s) k true ≡ true =
    λ k within. AllPass-from_list_all (λ b. b) (tests_of s) all k true within in
    record {
      settings = record {
        limits = record {
          processors_some = leb-true _ _ (each 0 (omega arith));
          processors_within = leb-true _ _ (each 1 (omega arith));
          base = record { some = leb-true _ _ (each 2 (omega arith)); within = leb-true _ _ (each 3 (omega arith)) };
          cap_some = leb-true _ _ (each 4 (omega arith));
          cap_within = leb-true _ _ (each 5 (omega arith));
        };
        horizon = inl near;
      };
      rising = λ i j d before within. ltb-true _ _
          (pairs_from_test (λ x y. ltb x.id y.id) s.events (each 6 (omega arith)) i j d before within);
      given = λ k d within. (
        leb-true _ _ (AllPass-from_list_all (λ x. leb 1 x.id) s.events (each 7 (omega arith)) k d within),
        ltb-true _ _ (AllPass-from_list_all (λ x. ltb x.id s.next) s.events (each 8 (omega arith)) k d within),
      );
      next_some = leb-true _ _ (each 9 (omega arith));
      next_within = leb-true _ _ (each 10 (omega arith));
      joins_once = λ i j d before within. not-true _
          (pairs_from_test (λ x y. not (join_alike x.event y.event)) s.events (each 11 (omega arith)) i j d before within);
      leaves_once = λ i j d before within. not-true _
          (pairs_from_test (λ x y. not (leave_alike x.event y.event)) s.events (each 12 (omega arith)) i j d before within);
      limits = λ k d within. none_from_test _
          (AllPass-from_list_all (λ x. is_none (event_fault s.settings [] x.event)) s.events (each 13 (omega arith)) k d within);
      few = leb-true _ _ (each 14 (omega arith));
    }

by_computing : (s : Plan) (n : ℕ) (r : List Slot) → s.settings.horizon ≡ near_horizon → passes s ≡ true → run_of s n ≡ r → IsRun s n r
by_computing s n r near all is = subst (IsRun s n) is (run_is_computed s n (scenario_from_test s near all))

-- what is opened to compute a run
computing : Unit {0}
unfolding run_cmp events_of release_of deadline_of bit_of group_of priority_cmp done in_force inside load_of count_of shift_of member_of ready course_of
computing = tt

order : OrderExamples
unfolding computing
order = record {
  three_tasks = by_computing _ _ _ refl refl refl;
  bit = by_computing _ _ _ refl refl refl;
  group = by_computing _ _ _ refl refl refl;
  overload = by_computing _ _ _ refl refl refl;
  early = by_computing _ _ _ refl refl refl;
  joined_late = by_computing _ _ _ refl refl refl;
}

delays : DelayExamples
unfolding computing
delays = record {
  plain = by_computing _ _ _ refl refl refl;
  holds_back = by_computing _ _ _ refl refl refl;
  still_early = by_computing _ _ _ refl refl refl;
  released = by_computing _ _ _ refl refl refl;
  unpicked = by_computing _ _ _ refl refl refl;
}

leaves : LeaveExamples
unfolding computing
leaves = record {
  over_capacity = by_computing _ _ _ refl refl refl;
  let_in = by_computing _ _ _ refl refl refl;
  denied_join = by_computing _ _ _ refl refl refl;
  struck_join = by_computing _ _ _ refl refl refl;
  evicted = by_computing _ _ _ refl refl refl;
  leave_first = by_computing _ _ _ refl refl refl;
  leave_of_none = by_computing _ _ _ refl refl refl;
  leave_and_join = by_computing _ _ _ refl refl refl;
  leave_and_delay = by_computing _ _ _ refl refl refl;
  join_and_delay = by_computing _ _ _ refl refl refl;
  leave_in_time = by_computing _ _ _ refl refl refl;
  leave_too_early = by_computing _ _ _ refl refl refl;
  last_in_time = by_computing _ _ _ refl refl refl;
  last_too_early = by_computing _ _ _ refl refl refl;
}

limits : LimitExamples
unfolding computing
limits = record {
  one_left = by_computing _ _ _ refl refl refl;
  for_a_slot = by_computing _ _ _ refl refl refl;
  with_leave = by_computing _ _ _ refl refl refl;
  later_number = by_computing _ _ _ refl refl refl;
}

pub worked_examples : WorkedExamples
worked_examples = record { order = order; delays = delays; leaves = leaves; limits = limits }
