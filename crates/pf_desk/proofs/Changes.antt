-- A change that touches no slot below n leaves the events of those slots.
use Rattle.std.proofs.Common.{◌≡◌, ℕ, ◌<◌, ◌≤◌, ◌==◌, eqb, false, nat_lt, if◌then◌else◌, Some, None, List, [], ◌∷◌, ◌++◌, map, min, refl, sym, ap, ◌∙◌, subst, arith, IfSome}
use Rattle.std.specs.Option.{option_map}
use Rattle.std.proofs.lemmas.Bool.{le-ltb, eq-eqb, cond-false}
use Rattle.std.proofs.lemmas.List.{append-nil}
use Rattle.std.proofs.lemmas.List.Elements.{filter-append}
use Rattle.pf_scenario.specs.Event.{slot_of}
use Rattle.pf_scenario.specs.Scenario.{Plan, with_number, events_without, held_slot, slot_touched, plan_after}
use Rattle.pf_scenario.specs.Edit.{IsScenario, edit_fault}
use Rattle.pf_scenario.specs.declared.event.Event.{Event}
use Rattle.pf_scenario.specs.declared.event.Numbered.{Numbered}
use Rattle.pf_scenario.specs.declared.change.Change.{Change}
use Rattle.pf_scenario.specs.declared.change.Change.TheVariants.{Insert, Alter, Strike}
use Rattle.pf_scenario.proofs.Lists.{All_left, Pairs-from_all, find_middle}
use Rattle.pf_scenario.proofs.Scenarios.{Held, held, others_of, without_held, replaced_held, or_else_none, unless_none}
use Rattle.pf_run.specs.Laws.{events_below}
use Rattle.pf_timeline.specs.Timeline.{KeptRun, StandsFor, AgreesBelow, past_below}
use Rattle.pf_desk.proofs.Histories.{settings_changed}
use Rattle.pf_timeline.proofs.Past.{agrees_below}

below-append : (n : ℕ) (xs ys : List Numbered) → events_below n (xs ++ ys) ≡ events_below n xs ++ events_below n ys
below-append n xs ys = filter-append (λ x. nat_lt (slot_of x.event) n) xs ys

-- an event that is not of a slot below n
late : (n : ℕ) (x : Numbered) (xs : List Numbered) → n ≤ slot_of x.event → events_below n (x ∷ xs) ≡ events_below n xs
late n x xs h = cond-false (nat_lt (slot_of x.event) n) _ _ (le-ltb (slot_of x.event) n h)

late_between : (n : ℕ) (xs : List Numbered) (y : Numbered) (ys : List Numbered) → n ≤ slot_of y.event → events_below n (xs ++ y ∷ ys) ≡ events_below n (xs ++ ys)
late_between n xs y ys h =
    below-append n xs (y ∷ ys) ∙ ap (λ zs. events_below n xs ++ zs) (late n y ys h) ∙ sym (below-append n xs ys)

-- the slot of the event of a number that is held
slot_held : (s : Plan) (id : ℕ) → IsScenario s → (here : Held s id) → held_slot s.events id ≡ Some (slot_of here.at.event)
slot_held s id scenario here =
    let rising = rw here.is at (Pairs-from_all (λ x y. x.id < y.id) s.events scenario.rising) in
    let none = All_left (λ y. eqb y.id here.at.id ≡ false) here.front here.back (others_of here.front here.at here.back rising) in
    rw (here.is, ← here.number)
    (ap (λ found. option_map (λ x. slot_of x.event) found)
    (find_middle (λ x. x.id == here.at.id) here.front here.at here.back none (eq-eqb here.at.id here.at.id refl)))

struck_rest : (s : Plan) (id n : ℕ) → IsScenario s → Held s id → IfSome (held_slot s.events id) (λ t. n ≤ t) →
    events_below n s.events ≡ events_below n (events_without id s.events)
struck_rest s id n scenario here touched =
    let slot : n ≤ slot_of here.at.event = subst (λ o. IfSome o (λ t. n ≤ t)) (slot_held s id scenario here) touched in
    ap (events_below n) here.is
    ∙ late_between n here.front here.at here.back slot
    ∙ ap (events_below n) (sym (without_held s.events here.front here.at here.back id scenario.rising here.is here.number))

altered_rest : (s : Plan) (id : ℕ) (event : Event) (n : ℕ) → IsScenario s → Held s id →
    IfSome (option_map (λ t. min t (slot_of event)) (held_slot s.events id)) (λ t. n ≤ t) →
    events_below n s.events ≡ events_below n (map (λ x. if x.id == id then with_number id event else x) s.events)
altered_rest s id event n scenario here touched =
    let least : n ≤ min (slot_of here.at.event) (slot_of event) =
    subst (λ o. IfSome (option_map (λ t. min t (slot_of event)) o) (λ t. n ≤ t)) (slot_held s id scenario here) touched in
    ap (events_below n) here.is
    ∙ late_between n here.front here.at here.back (omega arith)
    ∙ sym (late_between n here.front (with_number id event) here.back (omega arith))
    ∙ ap (events_below n) (sym (replaced_held s.events here.front here.at here.back id event scenario.rising here.is here.number))

-- a change that touches no slot below n leaves the events of those slots
events_rest : (s : Plan) (c : Change) (n : ℕ) → IsScenario s → edit_fault s c ≡ None →
    IfSome (slot_touched s c) (λ t. n ≤ t) → events_below n s.events ≡ events_below n (plan_after s c).events
events_rest s (Insert event) n scenario none touched =
    sym (append-nil (events_below n s.events))
    ∙ ap (λ zs. events_below n s.events ++ zs) (sym (late n (with_number s.next event) [] touched))
    ∙ sym (below-append n s.events (with_number s.next event ∷ []))
events_rest s (Alter id event) n scenario none touched =
    altered_rest s id event n scenario (held s id (unless_none _ _ (or_else_none _ _ none).0)) touched
events_rest s (Strike id) n scenario none touched = struck_rest s id n scenario (held s id (unless_none _ _ none)) touched

-- Use: it leaves their past.
pub past_rest : (s : Plan) (c : Change) (n : ℕ) → IsScenario s → edit_fault s c ≡ None → IfSome (slot_touched s c) (λ t. n ≤ t) →
    past_below n s ≡ past_below n (plan_after s c)
past_rest s c n scenario none touched =
    let events = events_rest s c n scenario none touched in
    λ i. record { settings = sym (settings_changed s c) i; events = events i }

-- Use: what stands for a scenario agrees with the changed one below the least slot that the change touches.
pub agrees_changed : (s : Plan) (c : Change) (from : ℕ) (kept : KeptRun) → StandsFor s kept.now kept → edit_fault s c ≡ None →
    slot_touched s c ≡ Some from → from < kept.now → AgreesBelow (plan_after s c) from kept
agrees_changed s c from kept stands faultless touched below =
    agrees_below s (plan_after s c) from kept.now kept (omega arith)
    (past_rest s c from stands.of_run.scenario faultless (subst (λ o. IfSome o (λ t. from ≤ t)) (sym touched) (omega arith))) stands
