-- The events of a scenario in time order, and what a change makes of them.
use Rattle.std.proofs.Common.{◌≡◌, ◌≢◌, ℕ, zero, suc, ◌≤◌, true, false, List, [], ◌∷◌, ◌++◌, refl, sym, ap, ap₂, ◌∙◌, arith, inl, inr}
use Rattle.std.specs.List.{All, filter}
use Rattle.std.specs.declared.cmp.Ordering.TheVariants.{Equal}
use Rattle.std.specs.Ordering.{ordering_then, nat_cmp, is_lt}
use Rattle.std.proofs.lemmas.Cmp.{tied_itself}
use Rattle.std.specs.Cmp.{nat_cmp_total}
use Rattle.std.proofs.lemmas.Bool.{cases_Bool, cond-false, eqb-true}
use Rattle.std.proofs.lemmas.Bool.Decides.{nat_tests}
use Rattle.std.proofs.lemmas.List.Elements.{All-head, All-tail, All-weaker, filter_passes}
use Rattle.pf_scenario.proofs.Sorting.{All-sorted_by, sorted_middle, filter-sorted_by, put_agree, IsInOrder, IsInOrder-sorted_by}
use Rattle.pf_scenario.proofs.Indexing.{time_cmp_total, time_differs, apart_back}
use Rattle.pf_scenario.specs.Sorted.{put_in_order}
use Rattle.pf_scenario.specs.Event.{slot_of, is_of_slot, run_cmp, in_run_order}
use Rattle.pf_scenario.specs.Scenario.{Plan, events_of, past}
use Rattle.pf_scenario.specs.TimeOrder.{time_cmp, put_in_time, in_time_order, is_before}
use Rattle.pf_scenario.specs.Index.{AreDistinctEvents}
use Rattle.pf_scenario.specs.declared.event.Numbered.{Numbered}

-- an event put amid others that are apart from it
pub in_time_middle : (front : List Numbered) (x : Numbered) (back : List Numbered) → All (λ y. AreDistinctEvents y x) front → in_time_order (front ++ x ∷ back) ≡ put_in_time x (in_time_order (front ++ back))
in_time_middle front x back apart =
    sorted_middle time_cmp_total front x back (All-weaker (λ y. AreDistinctEvents y x) (λ y. (time_cmp y x ≢ Equal) × (time_cmp x y ≢ Equal)) (λ y a. (time_differs y x a.numbers, time_differs x y (apart_back y x a).numbers)) front apart)

-- in one slot the order in time is that of a run
time_in_slot : (x y : Numbered) → slot_of x.event ≡ slot_of y.event → time_cmp x y ≡ run_cmp x y
unfolding time_cmp
time_in_slot x y same =
    ap (λ o. ordering_then o (run_cmp x y)) (ap (λ t. nat_cmp (slot_of x.event) t) (sym same) ∙ tied_itself nat_cmp_total (slot_of x.event))

slot_order : (t : ℕ) (xs : List Numbered) → All (λ x. is_of_slot t x ≡ true) xs → in_time_order xs ≡ in_run_order xs
slot_order t [] h = refl
slot_order t (x ∷ xs) h =
    let here = eqb-true _ _ (All-head (λ x. is_of_slot t x ≡ true) x xs h) in
    let later = All-tail (λ x. is_of_slot t x ≡ true) x xs h in
    let slots = All-sorted_by (λ y. is_of_slot t y ≡ true) time_cmp xs later in
    put_agree time_cmp run_cmp x (in_time_order xs) (All-weaker (λ y. is_of_slot t y ≡ true) (λ y. time_cmp x y ≡ run_cmp x y) (λ y of. time_in_slot x y (here ∙ sym (eqb-true _ _ of))) (in_time_order xs) slots)
    ∙ ap (put_in_order run_cmp x) (slot_order t xs later)

-- the events of a slot, cut out of all events in time order
pub slot_in_time : (events : List Numbered) (t : ℕ) → filter (is_of_slot t) (in_time_order events) ≡ in_run_order (filter (is_of_slot t) events)
slot_in_time events t = filter-sorted_by (is_of_slot t) time_cmp_total events ∙ slot_order t (filter (is_of_slot t) events) (filter_passes (is_of_slot t) events)

-- of two events the later is not in an earlier slot
not_before : (x y : Numbered) → is_lt (time_cmp y x) ≡ false → slot_of x.event ≤ slot_of y.event
unfolding time_cmp
not_before x y h = grind (arith, nat_tests)

none_before : (t : ℕ) (xs : List Numbered) → All (λ x. t ≤ slot_of x.event) xs → filter (is_before t) xs ≡ []
none_before t [] h = refl
none_before t (x ∷ xs) h =
    let here = All-head (λ x. t ≤ slot_of x.event) x xs h in
    cond-false (is_before t x) _ _ (grind (arith, nat_tests)) ∙ none_before t xs (All-tail (λ x. t ≤ slot_of x.event) x xs h)

-- where events are in time order, those of the next slot come after those of the slots below it
next_slot : (t : ℕ) (xs : List Numbered) → IsInOrder time_cmp xs → filter (is_before (suc t)) xs ≡ filter (is_before t) xs ++ filter (is_of_slot t) xs
next_slot t [] h = refl
next_slot t (x ∷ xs) h =
    let rest = next_slot t xs h.1 in
    elim (cases_Bool (is_before t x)) [
      | inl low ↦
          let this : is_before (suc t) x ≡ true = grind (arith, nat_tests) in
          let other : is_of_slot t x ≡ false = grind (arith, nat_tests) in
          rw (low, this, other) (ap (λ zs. x ∷ zs) rest)
      | inr not_low ↦ elim (cases_Bool (is_of_slot t x)) [
        | inl of ↦
            let this : is_before (suc t) x ≡ true = grind (arith, nat_tests) in
            let later : All (λ y. t ≤ slot_of y.event) xs = All-weaker (λ y. is_lt (time_cmp y x) ≡ false) (λ y. t ≤ slot_of y.event)
            (λ y up. let le = not_before x y up in let is : slot_of x.event ≡ t = eqb-true _ _ of in omega (arith, le, is)) xs h.0 in
            rw (not_low, this, of) (ap (λ zs. x ∷ zs) (rest ∙ ap (λ zs. zs ++ filter (is_of_slot t) xs) (none_before t xs later)) ∙ ap (λ zs. zs ++ x ∷ filter (is_of_slot t) xs) (sym (none_before t xs later)))
        | inr not_of ↦
            let this : is_before (suc t) x ≡ false = grind (arith, nat_tests) in
            rw (not_low, this, not_of) rest
      ]
    ]

-- Use: the events of the slots below t are those below it in time order.
pub past_in_time : (s : Plan) (t : ℕ) → filter (is_before t) (in_time_order s.events) ≡ past s t
unfolding events_of
past_in_time s zero = none_before 0 (in_time_order s.events) (λ k d low. omega arith)
past_in_time s (suc t) =
    next_slot t (in_time_order s.events) (IsInOrder-sorted_by time_cmp_total s.events)
    ∙ ap₂ (λ xs ys. xs ++ ys) (past_in_time s t) (slot_in_time s.events t)
