-- The events of a scenario can be inserted anew.
use Rattle.std.proofs.Common.{◌≡◌, ◌∙◌, ◌+◌, ◌≤◌, ℕ, Bool, true, false, nat_le, nat_lt, List, [], ◌∷◌, ◌++◌, None, All, get_or, length, length-append, refl, sym, append_assoc, arith}
use Rattle.std.specs.List.{list_any}
use Rattle.std.proofs.lemmas.Bool.Decides.{nat_tests}
use Rattle.std.proofs.lemmas.List.{append-nil}
use Rattle.std.proofs.lemmas.List.Elements.{All-nil, All-cons, All-head, All-tail, All-append}
use Rattle.pf_scenario.specs.System.{System}
use Rattle.pf_scenario.specs.Scenario.{Plan, with_number}
use Rattle.pf_scenario.specs.Edit.{edit_fault, event_fault, join_alike, leave_alike}
use Rattle.pf_scenario.specs.declared.scenario.TheConstants.{MOST_EVENTS, LAST_NUMBER}
use Rattle.pf_scenario.specs.declared.event.Event.{Event}
use Rattle.pf_scenario.specs.declared.event.Numbered.{Numbered}
use Rattle.pf_scenario.specs.declared.change.Change.TheVariants.{Insert}
use Rattle.pf_scenario.proofs.Lists.{Pairs, Pairs-from_all}
use Rattle.pf_scenario.proofs.Scenarios.{IsFree, event_fault_parts}
use Rattle.pf_script_laws.specs.Reopening.Taken.{inserted, AreTaken, events_held, numbered_from, EventsAreTakenAgain}

none_found : {X : Type 0} (p : X → Bool) (xs : List X) → All (λ x. p x ≡ false) xs → list_any p xs ≡ false
none_found p [] h = refl
none_found p (x ∷ xs) h = rw (All-head (λ x. p x ≡ false) x xs h) (none_found p xs (All-tail (λ x. p x ≡ false) x xs h))

-- an event within its limits that is alike to no other has no fault beside them
free_none : (settings : System) (others : List Numbered) (event : Event) → IsFree settings others event → event_fault settings others event ≡ None
free_none settings others event free =
    event_fault_parts settings others event
    ∙ rw (
      free.within,
      none_found (λ (x : Numbered). join_alike x.event event) others free.joins,
      none_found (λ (x : Numbered). leave_alike x.event event) others free.leaves,
    ) refl

abbrev plan_of : System → List Numbered → ℕ → Plan
plan_of settings events next = record { settings = settings; events = events; next = next }

insert_none : (settings : System) (xs : List Numbered) (n : ℕ) (event : Event) → IsFree settings xs event → length xs + 1 ≤ MOST_EVENTS → n ≤ LAST_NUMBER
    → edit_fault (plan_of settings xs n) (Insert event) ≡ None
insert_none settings xs n event free few given =
    let room : nat_lt (length xs) MOST_EVENTS ≡ true = grind (arith, nat_tests, few) in
    let number : nat_le n LAST_NUMBER ≡ true = grind (arith, nat_tests, given) in
    rw (free_none settings xs event free, room, number) refl

abbrev NotJoinedBoth : Numbered → Numbered → Type 0
NotJoinedBoth x y = join_alike x.event y.event ≡ false

abbrev NotLeftBoth : Numbered → Numbered → Type 0
NotLeftBoth x y = leave_alike x.event y.event ≡ false

-- events that are free beside those held, and alike to none of each other, are taken
taken : (settings : System) (ys xs : List Numbered) (n : ℕ) → n ≡ length xs + 1 → length xs + length ys ≤ MOST_EVENTS
    → All (λ y. IsFree settings xs y.event) ys → Pairs NotJoinedBoth ys → Pairs NotLeftBoth ys → AreTaken (plan_of settings xs n) (events_held ys)
taken settings [] xs n next few free joins leaves = tt
taken settings (y ∷ ys) xs n next few free joins leaves =
    let new = with_number n y.event in
    let behind = All-tail (λ z. IsFree settings xs z.event) y ys free in
    let given : n ≤ LAST_NUMBER = omega (arith, next, few) in (
      insert_none settings xs n y.event (All-head (λ z. IsFree settings xs z.event) y ys free) (omega (arith, few)) given,
      taken settings ys (xs ++ new ∷ []) (n + 1) (omega (arith, next, length-append xs (new ∷ []))) (omega (arith, few, length-append xs (new ∷ [])))
          (λ k d within.
          let z = get_or ys k d in
          let J : Numbered → Type 0 = λ x. join_alike x.event z.event ≡ false in
          let L : Numbered → Type 0 = λ x. leave_alike x.event z.event ≡ false in
          record {
            within = (behind k d within).within;
            joins = All-append J xs (new ∷ []) (behind k d within).joins (All-cons J new [] (joins.0 k d within) (All-nil J));
            leaves = All-append L xs (new ∷ []) (behind k d within).leaves (All-cons L new [] (leaves.0 k d within) (All-nil L));
          })
          joins.1 leaves.1,
    )

-- after those held they get the next numbers
held_then : (settings : System) (ys xs : List Numbered) (n : ℕ)
    → inserted (plan_of settings xs n) (events_held ys) ≡ plan_of settings (xs ++ numbered_from n (events_held ys)) (n + length ys)
held_then settings [] xs n =
    let next : n ≡ n + 0 = omega arith in
    λ i. record { settings = settings; events = sym (append-nil xs) i; next = next i }
held_then settings (y ∷ ys) xs n =
    let new = with_number n y.event in
    let next : n + 1 + length ys ≡ n + length (y ∷ ys) = omega arith in
    held_then settings ys (xs ++ new ∷ []) (n + 1)
    ∙ (λ i. record { settings = settings; events = append_assoc xs (new ∷ []) (numbered_from (n + 1) (events_held ys)) i; next = next i })

pub events_are_taken_again : EventsAreTakenAgain
events_are_taken_again s is =
    let free : All (λ y. IsFree s.settings [] y.event) s.events =
    λ k d within.
    let z = get_or s.events k d in
    record {
      within = is.limits k d within;
      joins = All-nil (λ (x : Numbered). join_alike x.event z.event ≡ false);
      leaves = All-nil (λ (x : Numbered). leave_alike x.event z.event ≡ false);
    } in (
      taken s.settings s.events [] 1 refl (omega (arith, is.few)) free (Pairs-from_all NotJoinedBoth s.events is.joins_once) (Pairs-from_all NotLeftBoth s.events is.leaves_once),
      held_then s.settings s.events [] 1,
    )
