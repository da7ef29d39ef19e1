-- Numbers change no run, and a scenario with its events numbered anew is one.
use Rattle.std.proofs.Common.{◌≡◌, ℕ, ◌+◌, ◌<◌, Bool, true, false, cond, nat_lt, List, [], ◌∷◌, ◌++◌, map, length, length-append, count_by, All, refl, sym, ap, ap₂, subst, ◌∙◌, append_assoc, arith}
use Rattle.std.proofs.lemmas.Bool.Decides.{nat_tests}
use Rattle.std.proofs.lemmas.List.Elements.{All-head, All-tail}
use Rattle.std.proofs.lemmas.List.Sums.{sum_by-append}
use Rattle.std.proofs.lemmas.List.{length-map, get_or-map}
use Rattle.pf_scenario.specs.Scenario.{Plan, plan_after, opening_plan}
use Rattle.pf_scenario.specs.Edit.{IsScenario}
use Rattle.pf_scenario.specs.declared.event.Numbered.{Numbered}
use Rattle.pf_scenario.specs.declared.event.Event.{Event}
use Rattle.pf_scenario.specs.declared.change.Change.TheVariants.{Insert}
use Rattle.pf_scenario.proofs.Lists.{Pairs, Pairs-from_all, Pairs_before, Pairs_after}
use Rattle.pf_scenario.proofs.Scenarios.{changes_keep_scenarios, opening_is_scenario}
use Rattle.pf_run.proofs.Counting.{count_by-cons}
use Rattle.pf_run.proofs.Plans.{count_none}
use Rattle.pf_script_laws.specs.Reopening.Taken.{inserted, AreTaken, events_held, numbered_from}
use Rattle.pf_script_laws.specs.Reopening.Renumbered.{renumber, HasSameRun, NumbersChangeNoRun, new_number, EventsAreNumberedAnew}
use Rattle.pf_script_laws.proofs.ReopeningLemmas.Renumbering.{RiseUnder, plan_under}
use Rattle.pf_script_laws.proofs.ReopeningLemmas.Rows.{rows_kept, denials_in_kept}
use Rattle.pf_script_laws.proofs.ReopeningLemmas.Tallied.{lags_of_kept, misses_of_kept}
use Rattle.pf_script_laws.proofs.ReopeningLemmas.Taken.{events_are_taken_again}

-- where the numbers rise before and after
rise_under : (f : ℕ → ℕ) (xs : List Numbered) → Pairs (λ x y. x.id < y.id) xs → Pairs (λ x y. x.id < y.id) (map (renumber f) xs) → Pairs (RiseUnder f) xs
rise_under f [] old new = tt
rise_under f (x ∷ xs) old new = (
  λ k d within. (
    old.0 k d within,
    let there = get_or-map (renumber f) xs k d (renumber f d) within in
        subst (λ (y : Numbered). f x.id < y.id) there
        (new.0 k (renumber f d) (let long : length (map (renumber f) xs) ≡ length xs = length-map xs (renumber f) in omega arith)),
  ),
  rise_under f xs old.1 new.1,
)

same_run : (f : ℕ → ℕ) (n : ℕ) (s : Plan) (next : ℕ) → IsScenario s → IsScenario (plan_under f s next) → HasSameRun f n s (plan_under f s next)
same_run f n s next of_s of_new =
    let rise = rise_under f s.events (Pairs-from_all (λ (x y : Numbered). x.id < y.id) s.events of_s.rising)
    (Pairs-from_all (λ (x y : Numbered). x.id < y.id) (map (renumber f) s.events) of_new.rising) in
    record {
      rows = rows_kept f s next of_s of_new rise n;
      denials = denials_in_kept f s next of_s of_new rise n;
      lags = lags_of_kept f s next of_s of_new rise n;
      misses = misses_of_kept f s next of_s of_new rise n;
    }

pub numbers_change_no_run : NumbersChangeNoRun
numbers_change_no_run f n s q of_s of_q new =
    let is : q ≡ plan_under f s q.next = λ k. record { settings = new.settings k; events = new.events k; next = q.next } in
    subst (λ p. HasSameRun f n s p) (sym is) (same_run f n s q.next of_s (subst IsScenario is of_q))

-- events that are taken make a scenario of a scenario
taken_scenario : (s : Plan) (xs : List Event) → IsScenario s → AreTaken s xs → IsScenario (inserted s xs)
taken_scenario s [] scenario taken = scenario
taken_scenario s (x ∷ xs) scenario taken =
    taken_scenario (plan_after s (Insert x)) xs (changes_keep_scenarios s (Insert x) scenario taken.0) taken.1

count_all : {X : Type 0} (p : X → Bool) (xs : List X) → All (λ x. p x ≡ true) xs → count_by p xs ≡ length xs
count_all p [] all = refl
count_all p (x ∷ xs) all =
    omega (
      arith,
      count_by-cons p x xs,
      ap {B = ℕ} (λ b. cond b 1 0) (All-head (λ y. p y ≡ true) x xs all),
      count_all p xs (All-tail (λ y. p y ≡ true) x xs all),
    )

-- as many numbers are lower as there are events before
lower_are_before : (front : List Numbered) (x : Numbered) (back : List Numbered) → Pairs (λ x y. x.id < y.id) (front ++ x ∷ back)
    → count_by (λ y. nat_lt y.id x.id) (front ++ x ∷ back) ≡ length front
lower_are_before front x back rise =
    let p : Numbered → Bool = λ y. nat_lt y.id x.id in
    let before = Pairs_before (λ (x y : Numbered). x.id < y.id) front x back rise in
    let after = Pairs_after (λ (x y : Numbered). x.id < y.id) front x back rise in
    let low : All (λ y. p y ≡ true) front = λ k d within. let h = before k d within in grind (arith, nat_tests, h) in
    let own : p x ≡ false = grind (arith, nat_tests) in
    let high : All (λ y. p y ≡ false) back = λ k d within. let h = after k d within in grind (arith, nat_tests, h) in
    omega (
      arith,
      sum_by-append (λ y. cond (p y) 1 0) front (x ∷ back),
      count_all p front low,
      count_by-cons p x back,
      ap {B = ℕ} (λ b. cond b 1 0) own,
      count_none p back high,
    )

-- so the new numbers are those from 1 on
numbered_behind : (front xs : List Numbered) (n : ℕ) → n ≡ length front + 1 → Pairs (λ x y. x.id < y.id) (front ++ xs)
    → numbered_from n (events_held xs) ≡ map (renumber (new_number (front ++ xs))) xs
numbered_behind front [] n next rise = refl
numbered_behind front (x ∷ xs) n next rise =
    let whole = append_assoc front (x ∷ []) xs in
    let more = numbered_behind (front ++ x ∷ []) xs (n + 1) (omega (arith, next, length-append front (x ∷ [])))
    (subst (λ ys. Pairs (λ (x y : Numbered). x.id < y.id) ys) (sym whole) rise) in
    let number : n ≡ new_number (front ++ x ∷ xs) x.id = omega (arith, next, lower_are_before front x xs rise) in
    ap₂ (λ (m : ℕ) (ys : List Numbered). record { id = m; event = x.event } ∷ ys) number (more ∙ ap (λ ys. map (renumber (new_number ys)) xs) whole)

pub events_are_numbered_anew : EventsAreNumberedAnew
events_are_numbered_anew s is =
    let again = events_are_taken_again s is in
    record {
      scenario = subst IsScenario again.1
          (taken_scenario (opening_plan s.settings) (events_held s.events) (opening_is_scenario s.settings is.settings) again.0);
      events = record {
        settings = refl;
        events = numbered_behind [] s.events 1 refl (Pairs-from_all (λ (x y : Numbered). x.id < y.id) s.events is.rising);
      };
    }
