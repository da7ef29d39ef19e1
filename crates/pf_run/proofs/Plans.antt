-- What holds of the events of a scenario, up to a slot of a run.
use Rattle.std.proofs.Common.{◌≡◌, ℕ, zero, suc, ◌+◌, ◌≤◌, Bool, true, false, not, ◌==◌, nat_lt, cond, List, [], ◌∷◌, length, filter, count_by, All, AllPairs, Contains, refl, ap, arith}
use Rattle.std.proofs.lemmas.Bool.{eqb-true}
use Rattle.std.proofs.lemmas.Bool.Decides.{nat_tests}
use Rattle.std.proofs.lemmas.List.Sums.{sum_by-append}
use Rattle.std.proofs.lemmas.List.Sorted.{sum_by-IsPermutation}
use Rattle.std.proofs.lemmas.List.Elements.{All-head, All-tail, All-weaker, All-contains, All-contains_itself}
use Rattle.pf_scenario.specs.Event.{slot_of, is_of_slot, run_cmp, in_run_order, is_join_of}
use Rattle.pf_scenario.specs.Scenario.{Plan, events_of, past}
use Rattle.pf_scenario.specs.Edit.{IsScenario, IsEvent, join_alike}
use Rattle.pf_scenario.specs.declared.event.Numbered.{Numbered}
use Rattle.pf_scenario.proofs.Indexing.{join_pair}
use Rattle.pf_scenario.proofs.Sorting.{sorted_keeps}
use Rattle.pf_run.specs.declared.denied.Denied.{Denied}
use Rattle.pf_run.specs.Record.{is_denied, in_force}
use Rattle.pf_run.specs.Inside.{joins_of}
use Rattle.pf_run.proofs.Counting.{count_by-cons, count_by-filter-le}
use Rattle.pf_run.proofs.Joins.{contains_events_of, contains_past, joins_once_past}

-- the events of a slot are of it, and all are events of the scenario
pub slots_of_events : (s : Plan) (t : ℕ) → All (λ y. slot_of y.event ≡ t) (events_of s t)
slots_of_events s t =
    All-weaker (Contains (events_of s t)) (λ y. slot_of y.event ≡ t)
    (λ y among. eqb-true (slot_of y.event) t (contains_events_of s t y among).1) (events_of s t) (All-contains_itself (events_of s t))

pub limits_of_events : (s : Plan) (t : ℕ) → IsScenario s → All (λ y. IsEvent s.settings y.event) (events_of s t)
limits_of_events s t scenario =
    All-weaker (Contains (events_of s t)) (λ y. IsEvent s.settings y.event)
    (λ y among. All-contains (λ x. IsEvent s.settings x.event) s.events y scenario.limits (contains_events_of s t y among).0)
    (events_of s t) (All-contains_itself (events_of s t))

pub limits_of_past : (s : Plan) (t : ℕ) → IsScenario s → All (λ y. IsEvent s.settings y.event) (past s t)
limits_of_past s t scenario =
    All-weaker (Contains (past s t)) (λ y. IsEvent s.settings y.event)
    (λ y among. All-contains (λ x. IsEvent s.settings x.event) s.events y scenario.limits (contains_past s t y among))
    (past s t) (All-contains_itself (past s t))

-- counts through the run order
count_in_run_order : (p : Numbered → Bool) (xs : List Numbered) → count_by p (in_run_order xs) ≡ count_by p xs
count_in_run_order p xs = sum_by-IsPermutation (λ x. cond (p x) 1 0) xs (in_run_order xs) (sorted_keeps run_cmp xs)

-- the events of the slots below t, and of t
count_split : (p : Numbered → Bool) (below at up : Bool) (x : Numbered) (xs ys zs : List Numbered) →
    cond up 1 0 ≡ cond below 1 0 + cond at 1 0 → count_by p zs ≡ count_by p xs + count_by p ys →
    count_by p (cond up (x ∷ zs) zs) ≡ count_by p (cond below (x ∷ xs) xs) + count_by p (cond at (x ∷ ys) ys)
count_split p true false true x xs ys zs one e = omega (arith, count_by-cons p x xs, count_by-cons p x zs)
count_split p false true true x xs ys zs one e = omega (arith, count_by-cons p x ys, count_by-cons p x zs)
count_split p false false false x xs ys zs one e = e
count_split p true true true x xs ys zs one e = absurd (omega arith)
count_split p true true false x xs ys zs one e = absurd (omega arith)
count_split p true false false x xs ys zs one e = absurd (omega arith)
count_split p false true false x xs ys zs one e = absurd (omega arith)
count_split p false false true x xs ys zs one e = absurd (omega arith)

below_more : (n t : ℕ) → cond (nat_lt n (suc t)) 1 0 ≡ cond (nat_lt n t) 1 0 + cond (n == t) 1 0
below_more n t = grind (arith, nat_tests)

count_to : (p : Numbered → Bool) (t : ℕ) (xs : List Numbered) →
    count_by p (filter (λ x. nat_lt (slot_of x.event) (suc t)) xs)
    ≡ count_by p (filter (λ x. nat_lt (slot_of x.event) t) xs) + count_by p (filter (is_of_slot t) xs)
count_to p t [] = refl
count_to p t (x ∷ xs) =
    count_split p (nat_lt (slot_of x.event) t) (is_of_slot t x) (nat_lt (slot_of x.event) (suc t)) x _ _ _
    (below_more (slot_of x.event) t) (count_to p t xs)

count_below : (p : Numbered → Bool) (s : Plan) (t : ℕ) →
    count_by p (past s t) ≤ count_by p (filter (λ x. nat_lt (slot_of x.event) t) s.events)
unfolding events_of
count_below p s zero = omega arith
count_below p s (suc t) =
    omega (
      arith,
      sum_by-append (λ x. cond (p x) 1 0) (past s t) (events_of s t),
      count_below p s t,
      count_in_run_order p (filter (is_of_slot t) s.events),
      count_to p t s.events,
    )

-- the past is no more than the scenario
length_count : (xs : List Numbered) → length xs ≡ count_by (λ x. true) xs
length_count [] = refl
length_count (x ∷ xs) = omega (arith, length_count xs, count_by-cons (λ (y : Numbered). true) x xs)

pub past_few : (s : Plan) (t : ℕ) → length (past s t) ≤ length s.events
past_few s t =
    omega (
      arith,
      length_count (past s t),
      length_count s.events,
      count_below (λ x. true) s t,
      count_by-filter-le (λ (x : Numbered). true) (λ x. nat_lt (slot_of x.event) t) s.events,
    )

-- what is in force is no more than the past
pub in_force_count : (p : Numbered → Bool) (denials : List Denied) (xs : List Numbered) →
    count_by p (in_force denials xs) ≤ count_by p xs
unfolding in_force
in_force_count p denials xs = count_by-filter-le p (λ x. not (is_denied denials x)) xs

pub in_force_few : (denials : List Denied) (xs : List Numbered) → length (in_force denials xs) ≤ length xs
in_force_few denials xs =
    omega (arith, length_count xs, length_count (in_force denials xs), in_force_count (λ x. true) denials xs)

-- no task joins twice
pub count_none : {A : Type 0} (p : A → Bool) (xs : List A) → All (λ x. p x ≡ false) xs → count_by p xs ≡ 0
count_none p [] none = refl
count_none p (x ∷ xs) none =
    omega (
      arith,
      count_by-cons p x xs,
      ap (λ b. cond b 1 0 + count_by p xs) (All-head (λ y. p y ≡ false) x xs none),
      count_none p xs (All-tail (λ y. p y ≡ false) x xs none),
    )

joins_cond : (b : Bool) (n : ℕ) → (b ≡ true → n ≡ 0) → n ≤ 1 → cond b 1 0 + n ≤ 1
joins_cond true n none few = omega (arith, none refl)
joins_cond false n none few = omega arith

pub joins_few : (task : ℕ) (xs : List Numbered) → AllPairs (λ x y. join_alike x.event y.event ≡ false) xs → joins_of task xs ≤ 1
joins_few task [] once = omega arith
joins_few task (x ∷ xs) once =
    omega (
      arith,
      count_by-cons (λ y. is_join_of task y.event) x xs,
      joins_cond (is_join_of task x.event) (joins_of task xs)
          (λ first. count_none (λ y. is_join_of task y.event) xs
          (λ k d within. join_pair task x.event _ (once 0 (suc k) d (omega arith) (omega arith)) first))
          (joins_few task xs (λ i j d before within. once (suc i) (suc j) d (omega arith) (omega arith))),
    )

-- none among the events in force and those of the slot
pub joins_at : (s : Plan) (denials : List Denied) (t : ℕ) → IsScenario s → (task : ℕ) →
    joins_of task (in_force denials (past s t)) + joins_of task (events_of s t) ≤ 1
joins_at s denials t scenario task =
    omega (
      arith,
      joins_few task (past s (suc t)) (joins_once_past s (suc t) scenario),
      sum_by-append (λ (x : Numbered). cond (is_join_of task x.event) 1 0) (past s t) (events_of s t),
      in_force_count (λ x. is_join_of task x.event) denials (past s t),
    )
