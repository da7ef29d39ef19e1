-- What the tables by task tell, and what is noted there when an event is put among others or taken out.
use Rattle.std.proofs.Common.{◌≡◌, ◌≢◌, ℕ, ◌+◌, ◌≤◌, Bool, true, false, not, cond, ◌&&◌, ◌||◌, List, [], ◌∷◌, ◌++◌, length, get_or, refl, sym, ap, ◌∙◌, arith, inl, inr, ◌⊎◌}
use Rattle.std.specs.Prelude.{◌==◌, slice_index}
use Rattle.std.specs.List.{All, list_any}
use Rattle.std.specs.Option.{unwrap_or}
use Rattle.std.specs.Cmp.{IsTotalOrder, nat_cmp_total}
use Rattle.std.specs.declared.cmp.Ordering.TheVariants.{Equal}
use Rattle.std.proofs.lemmas.Cmp.{then_total, on_total, nat_eq_equiv}
use Rattle.std.proofs.lemmas.Bool.{cases_Bool, cases_lt, cond-true, cond-false, false≢true, eq-eqb, ne_eqb}
use Rattle.std.proofs.lemmas.Bool.Decides.{nat_tests}
use Rattle.std.proofs.lemmas.List.{get_or_past}
use Rattle.std.proofs.lemmas.List.Elements.{All-head, All-tail, All-weaker, All-filter, All-append}
use Rattle.std.proofs.lemmas.List.Folds.{list_any_none}
use Rattle.pf_scenario.proofs.Lists.{Pairs, Pairs-from_all, Pairs_before, Pairs_after, All_left, All_at}
use Rattle.pf_scenario.proofs.Scenarios.{join_alike_back, leave_alike_back}
use Rattle.pf_scenario.specs.Event.{slot_of, kind_of, task_of, run_cmp, is_join_of, is_leave_of}
use Rattle.pf_scenario.specs.Scenario.{events_without}
use Rattle.pf_scenario.specs.Edit.{join_alike, leave_alike}
use Rattle.pf_scenario.specs.TimeOrder.{time_cmp}
use Rattle.pf_scenario.specs.Index.{first_number_of, AreDistinctEvents, IsIndexed, HasTaskRoom, Notes}
use Rattle.pf_scenario.specs.declared.event.Event.{Event}
use Rattle.pf_scenario.specs.declared.event.Event.TheVariants.{Join, Leave, Delay, Limit}
use Rattle.pf_scenario.specs.declared.event.Numbered.{Numbered}
use Rattle.pf_scenario.specs.declared.place.Place.{Place}

-- the order in time is an order, and ties only equal numbers
pub run_cmp_total : IsTotalOrder run_cmp
unfolding run_cmp
run_cmp_total =
    then_total (on_total (λ (x : Numbered). kind_of x.event) nat_cmp_total)
    (then_total (on_total (λ (x : Numbered). unwrap_or (task_of x.event) 0) nat_cmp_total) (on_total (λ (x : Numbered). x.id) nat_cmp_total))

pub time_cmp_total : IsTotalOrder time_cmp
unfolding time_cmp
time_cmp_total = then_total (on_total (λ (x : Numbered). slot_of x.event) nat_cmp_total) run_cmp_total

pub time_differs : (x y : Numbered) → (x.id == y.id) ≡ false → time_cmp x y ≢ Equal
unfolding time_cmp run_cmp
time_differs x y differ tie = grind (arith, nat_tests)

-- apart either way round
pub apart_back : (x y : Numbered) → AreDistinctEvents x y → AreDistinctEvents y x
apart_back x y h = record {
  numbers = nat_eq_equiv.symm y.id x.id ∙ h.numbers;
  joins = join_alike_back y.event x.event ∙ h.joins;
  leaves = leave_alike_back y.event x.event ∙ h.leaves;
}

-- the number of an event amid others
pub first_number_of-none : (p : Event → Bool) (xs : List Numbered) → All (λ x. p x.event ≡ false) xs → first_number_of p xs ≡ 0
first_number_of-none p [] h = refl
first_number_of-none p (x ∷ xs) h =
    cond-false (p x.event) _ _ (All-head (λ x. p x.event ≡ false) x xs h) ∙ first_number_of-none p xs (All-tail (λ x. p x.event ≡ false) x xs h)

pub first_number_of-other : (p : Event → Bool) (front : List Numbered) (x : Numbered) (back : List Numbered) → p x.event ≡ false → first_number_of p (front ++ x ∷ back) ≡ first_number_of p (front ++ back)
first_number_of-other p [] x back h = cond-false (p x.event) _ _ h
first_number_of-other p (y ∷ front) x back h = ap (λ n. cond (p y.event) y.id n) (first_number_of-other p front x back h)

pub first_number_of-here : (p : Event → Bool) (front : List Numbered) (x : Numbered) (back : List Numbered) → p x.event ≡ true → All (λ y. p y.event ≡ false) front → first_number_of p (front ++ x ∷ back) ≡ x.id
first_number_of-here p [] x back h none = cond-true (p x.event) _ _ h
first_number_of-here p (y ∷ front) x back h none =
    cond-false (p y.event) _ _ (All-head (λ y. p y.event ≡ false) y front none) ∙ first_number_of-here p front x back h (All-tail (λ y. p y.event ≡ false) y front none)

-- a test that an event passes at most once among others
abbrev pub Excludes : (Event → Bool) → Numbered → Numbered → Type 0
Excludes p x y = p x.event ≡ true → p y.event ≡ false

-- Use: of two events that do not join one task, no more than one joins a task.
pub join_pair : (task : ℕ) (x y : Event) → join_alike x y ≡ false → is_join_of task x ≡ true → is_join_of task y ≡ false
join_pair task (Join slot t cost period early) (Join slot' t' cost' period' early') apart first = grind (arith, nat_tests)
join_pair task (Join slot t cost period early) (Leave slot' t') apart first = refl
join_pair task (Join slot t cost period early) (Delay slot' t' by) apart first = refl
join_pair task (Join slot t cost period early) (Limit slot' count) apart first = refl
join_pair task (Leave slot t) y apart first = absurd (false≢true first)
join_pair task (Delay slot t by) y apart first = absurd (false≢true first)
join_pair task (Limit slot count) y apart first = absurd (false≢true first)

pub join_excludes : (t : ℕ) (x y : Numbered) → AreDistinctEvents x y → Excludes (is_join_of t) x y
join_excludes t x y h = join_pair t x.event y.event h.joins

pub leave_excludes : (t : ℕ) (x y : Numbered) → AreDistinctEvents x y → Excludes (is_leave_of t) x y
leave_excludes t x y h = leave_of t x.event y.event h.leaves
  where
    leave_of : (t : ℕ) (x y : Event) → leave_alike x y ≡ false → is_leave_of t x ≡ true → is_leave_of t y ≡ false
    leave_of t (Leave slot task) (Leave slot' task') h e = grind (arith, nat_tests)
    leave_of t (Leave slot task) (Join slot' task' cost period early) h e = refl
    leave_of t (Leave slot task) (Delay slot' task' by) h e = refl
    leave_of t (Leave slot task) (Limit slot' count) h e = refl
    leave_of t (Join slot task cost period early) y h e = absurd (false≢true e)
    leave_of t (Delay slot task by) y h e = absurd (false≢true e)
    leave_of t (Limit slot count) y h e = absurd (false≢true e)

-- whether an event of another number passes the test
pub beside : (p : Event → Bool) (id : ℕ) (xs : List Numbered) → All (λ x. 1 ≤ x.id) xs → Pairs (Excludes p) xs → list_any (λ x. p x.event) (events_without id xs) ≡ (not (first_number_of p xs == 0) && not (first_number_of p xs == id))
beside p id [] given once = refl
beside p id (x ∷ xs) given once =
    let some = All-head (λ x. 1 ≤ x.id) x xs given in
    let not_zero : (x.id == 0) ≡ false = ne_eqb x.id 0 (λ e. omega arith) in
    elim (cases_Bool (p x.event)) [
      | inl passes ↦
          let none = All-weaker (Excludes p x) (λ y. p y.event ≡ false) (λ y h. h passes) xs once.0 in
          elim (cases_Bool (x.id == id)) [
            | inl same ↦ rw (passes, same, not_zero) (list_any_none (λ y. p y.event) (events_without id xs) (All-filter (λ y. not (y.id == id)) (λ y. p y.event ≡ false) xs none))
            | inr other ↦ rw (passes, other, not_zero) (ap (λ b. b || list_any (λ y. p y.event) (events_without id xs)) passes)
          ]
      | inr fails ↦
          let rest = beside p id xs (All-tail (λ x. 1 ≤ x.id) x xs given) once.1 in
          elim (cases_Bool (x.id == id)) [
            | inl same ↦ rw (fails, same) rest
            | inr other ↦ rw (fails, other) (ap (λ b. b || list_any (λ y. p y.event) (events_without id xs)) fails ∙ rest)
          ]
    ]

-- the test of one kind of event is the test of its task
pub joins_alike : (slot task cost period early : ℕ) (xs : List Numbered) → list_any (λ x. join_alike x.event (Join slot task cost period early)) xs ≡ list_any (λ x. is_join_of task x.event) xs
joins_alike slot task cost period early [] = refl
joins_alike slot task cost period early (x ∷ xs) =
    ap (λ b. b || list_any (λ x. join_alike x.event (Join slot task cost period early)) xs) (one x.event) ∙ ap (λ b. is_join_of task x.event || b) (joins_alike slot task cost period early xs)
  where
    one : (e : Event) → join_alike e (Join slot task cost period early) ≡ is_join_of task e
    one (Join a b c d e) = refl
    one (Leave a b) = refl
    one (Delay a b c) = refl
    one (Limit a b) = refl

pub leaves_alike : (slot task : ℕ) (xs : List Numbered) → list_any (λ x. leave_alike x.event (Leave slot task)) xs ≡ list_any (λ x. is_leave_of task x.event) xs
leaves_alike slot task [] = refl
leaves_alike slot task (x ∷ xs) =
    ap (λ b. b || list_any (λ x. leave_alike x.event (Leave slot task)) xs) (one x.event) ∙ ap (λ b. is_leave_of task x.event || b) (leaves_alike slot task xs)
  where
    one : (e : Event) → leave_alike e (Leave slot task) ≡ is_leave_of task e
    one (Join a b c d e) = refl
    one (Leave a b) = refl
    one (Delay a b c) = refl
    one (Limit a b) = refl

-- a table after a note of an event that is put amid others, and after it is taken out
pub put_note : (p : ℕ → Event → Bool) (old new : List ℕ) (front : List Numbered) (x : Numbered) (back : List Numbered) → ((t : ℕ) (y : Numbered) → AreDistinctEvents y x → Excludes (p t) x y) → All (λ y. AreDistinctEvents y x) (front ++ back) → ((t : ℕ) → slice_index old t ≡ first_number_of (p t) (front ++ back)) → Notes p old new x.event x.id → (t : ℕ) → slice_index new t ≡ first_number_of (p t) (front ++ x ∷ back)
put_note p old new front x back excludes apart was notes t =
    notes t ∙ elim (cases_Bool (p t x.event)) [
      | inl here ↦
          let none = All-weaker (λ y. AreDistinctEvents y x) (λ y. p t y.event ≡ false) (λ y h. excludes t y h here) (front ++ back) apart in
          cond-true (p t x.event) _ _ here ∙ sym (first_number_of-here (p t) front x back here (All_left (λ y. p t y.event ≡ false) front back none))
      | inr not_here ↦ cond-false (p t x.event) _ _ not_here ∙ was t ∙ sym (first_number_of-other (p t) front x back not_here)
    ]

pub take_note : (p : ℕ → Event → Bool) (old new : List ℕ) (front : List Numbered) (x : Numbered) (back : List Numbered) → ((t : ℕ) (y : Numbered) → AreDistinctEvents y x → Excludes (p t) x y) → All (λ y. AreDistinctEvents y x) (front ++ back) → ((t : ℕ) → slice_index old t ≡ first_number_of (p t) (front ++ x ∷ back)) → Notes p old new x.event 0 → (t : ℕ) → slice_index new t ≡ first_number_of (p t) (front ++ back)
take_note p old new front x back excludes apart was notes t =
    notes t ∙ elim (cases_Bool (p t x.event)) [
      | inl here ↦
          let none = All-weaker (λ y. AreDistinctEvents y x) (λ y. p t y.event ≡ false) (λ y h. excludes t y h here) (front ++ back) apart in
          cond-true (p t x.event) _ _ here ∙ sym (first_number_of-none (p t) (front ++ back) none)
      | inr not_here ↦ cond-false (p t x.event) _ _ not_here ∙ was t ∙ first_number_of-other (p t) front x back not_here
    ]

-- all the events about one are apart from it
pub around_apart : (front : List Numbered) (x : Numbered) (back : List Numbered) → Pairs AreDistinctEvents (front ++ x ∷ back) → All (λ y. AreDistinctEvents y x) (front ++ back)
around_apart front x back h =
    All-append (λ y. AreDistinctEvents y x) front back (Pairs_before AreDistinctEvents front x back h) (All-weaker (AreDistinctEvents x) (λ y. AreDistinctEvents y x) (λ y a. apart_back x y a) back (Pairs_after AreDistinctEvents front x back h))

-- tables with more places
pub indexed_grown : (events : List Numbered) (places : List Place) (joins leaves joins' leaves' : List ℕ) → IsIndexed events places joins leaves → ((t : ℕ) → slice_index joins' t ≡ slice_index joins t) → ((t : ℕ) → slice_index leaves' t ≡ slice_index leaves t) → IsIndexed events places joins' leaves'
indexed_grown events places joins leaves joins' leaves' h same_joins same_leaves = record {
  rising = h.rising;
  apart = h.apart;
  given = h.given;
  placeable = h.placeable;
  placed = h.placed;
  joined = λ t. same_joins t ∙ h.joined t;
  left = λ t. same_leaves t ∙ h.left t;
}

-- the tables have a place for the task of an event that is held
pub room_held : (front : List Numbered) (x : Numbered) (back : List Numbered) (places : List Place) (joins leaves : List ℕ) → IsIndexed (front ++ x ∷ back) places joins leaves → HasTaskRoom joins leaves x.event
room_held front x back places joins leaves h =
    let before = Pairs_before AreDistinctEvents front x back (Pairs-from_all AreDistinctEvents (front ++ x ∷ back) h.apart) in
    let some = All_at (λ y. 1 ≤ y.id) front x back h.given in
    let number : (p : Event → Bool) → ((x y : Numbered) → AreDistinctEvents x y → Excludes p x y) → p x.event ≡ true → first_number_of p (front ++ x ∷ back) ≡ x.id
    = λ p excludes here.
    first_number_of-here p front x back here (All-weaker (λ y. AreDistinctEvents y x) (λ y. p y.event ≡ false) (λ y a. excludes x y (apart_back y x a) here) front before) in
    record {
      join_place = λ t here. within joins t x.id (h.joined t ∙ number (is_join_of t) (join_excludes t) here) some;
      leave_place = λ t here. within leaves t x.id (h.left t ∙ number (is_leave_of t) (leave_excludes t) here) some;
    }
  where
    within : (table : List ℕ) (t n : ℕ) → slice_index table t ≡ n → 1 ≤ n → t + 1 ≤ length table
    within table t n e some =
        elim (cases_lt t (length table)) [
          | inl low ↦ omega arith
          | inr past ↦ let zero = get_or_past table t 0 past in absurd (omega arith)
        ]

-- what the tables tell of the events of other numbers
all_exclude : (p : Event → Bool) → ((x y : Numbered) → AreDistinctEvents x y → Excludes p x y) → (order : List Numbered) → Pairs AreDistinctEvents order → Pairs (Excludes p) order
all_exclude p excludes [] h = tt
all_exclude p excludes (x ∷ xs) h = (All-weaker (AreDistinctEvents x) (Excludes p x) (excludes x) xs h.0, all_exclude p excludes xs h.1)

pub joins_beside : (events : List Numbered) (places : List Place) (joins leaves : List ℕ) (id slot task cost period early n : ℕ) → IsIndexed events places joins leaves → n ≡ slice_index joins task → list_any (λ x. join_alike x.event (Join slot task cost period early)) (events_without id events) ≡ (not (n == 0) && not (n == id))
joins_beside events places joins leaves id slot task cost period early n h e =
    joins_alike slot task cost period early (events_without id events)
    ∙ beside (is_join_of task) id events h.given (all_exclude (is_join_of task) (join_excludes task) events (Pairs-from_all AreDistinctEvents events h.apart))
    ∙ ap (λ n. not (n == 0) && not (n == id)) (sym (e ∙ h.joined task))

pub leaves_beside : (events : List Numbered) (places : List Place) (joins leaves : List ℕ) (id slot task n : ℕ) → IsIndexed events places joins leaves → n ≡ slice_index leaves task → list_any (λ x. leave_alike x.event (Leave slot task)) (events_without id events) ≡ (not (n == 0) && not (n == id))
leaves_beside events places joins leaves id slot task n h e =
    leaves_alike slot task (events_without id events)
    ∙ beside (is_leave_of task) id events h.given (all_exclude (is_leave_of task) (leave_excludes task) events (Pairs-from_all AreDistinctEvents events h.apart))
    ∙ ap (λ n. not (n == 0) && not (n == id)) (sym (e ∙ h.left task))

-- no event is alike to one of another kind
no_join : (x event : Event) → ((t : ℕ) → is_join_of t event ≡ false) → join_alike x event ≡ false
no_join (Join slot task cost period early) (Join slot' task' cost' period' early') none = absurd (false≢true (sym (none task') ∙ eq-eqb task' task' refl))
no_join (Join slot task cost period early) (Leave slot' task') none = refl
no_join (Join slot task cost period early) (Delay slot' task' by) none = refl
no_join (Join slot task cost period early) (Limit slot' count) none = refl
no_join (Leave slot task) event none = refl
no_join (Delay slot task by) event none = refl
no_join (Limit slot count) event none = refl

no_leave : (x event : Event) → ((t : ℕ) → is_leave_of t event ≡ false) → leave_alike x event ≡ false
no_leave (Leave slot task) (Leave slot' task') none = absurd (false≢true (sym (none task') ∙ eq-eqb task' task' refl))
no_leave (Leave slot task) (Join slot' task' cost period early) none = refl
no_leave (Leave slot task) (Delay slot' task' by) none = refl
no_leave (Leave slot task) (Limit slot' count) none = refl
no_leave (Join slot task cost period early) event none = refl
no_leave (Delay slot task by) event none = refl
no_leave (Limit slot count) event none = refl

pub none_joins : (event : Event) (xs : List Numbered) → ((t : ℕ) → is_join_of t event ≡ false) → list_any (λ x. join_alike x.event event) xs ≡ false
none_joins event xs none = list_any_none (λ x. join_alike x.event event) xs (λ k d low. no_join (get_or xs k d).event event none)

pub none_leaves : (event : Event) (xs : List Numbered) → ((t : ℕ) → is_leave_of t event ≡ false) → list_any (λ x. leave_alike x.event event) xs ≡ false
none_leaves event xs none = list_any_none (λ x. leave_alike x.event event) xs (λ k d low. no_leave (get_or xs k d).event event none)

-- an event of one of three kinds that are no join, or no leave
pub is_no_join : (event : Event) (t : ℕ) → ((slot : ℕ) × (task : ℕ) × (event ≡ Leave slot task)) ⊎ (((slot : ℕ) × (task : ℕ) × (by : ℕ) × (event ≡ Delay slot task by)) ⊎ ((slot : ℕ) × (count : ℕ) × (event ≡ Limit slot count))) → is_join_of t event ≡ false
is_no_join event t (inl (slot, task, e)) = ap (is_join_of t) e
is_no_join event t (inr (inl (slot, task, by, e))) = ap (is_join_of t) e
is_no_join event t (inr (inr (slot, count, e))) = ap (is_join_of t) e

pub is_no_leave : (event : Event) (t : ℕ) → ((slot : ℕ) × (task : ℕ) × (cost : ℕ) × (period : ℕ) × (early : ℕ) × (event ≡ Join slot task cost period early)) ⊎ (((slot : ℕ) × (task : ℕ) × (by : ℕ) × (event ≡ Delay slot task by)) ⊎ ((slot : ℕ) × (count : ℕ) × (event ≡ Limit slot count))) → is_leave_of t event ≡ false
is_no_leave event t (inl (slot, task, cost, period, early, e)) = ap (is_leave_of t) e
is_no_leave event t (inr (inl (slot, task, by, e))) = ap (is_leave_of t) e
is_no_leave event t (inr (inr (slot, count, e))) = ap (is_leave_of t) e
