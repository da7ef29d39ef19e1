-- The events of a slot, found by their places.
use Rattle.std.proofs.Common.{◌≡◌, ℕ, ◌+◌, ◌<◌, ◌≤◌, Bool, false, true, Some, None, List, [], ◌∷◌, ◌++◌, length, map, min, get_or, refl, sym, ap, ◌∙◌, subst, arith, inl, inr}
use Rattle.std.specs.Prelude.{nat_le}
use Rattle.std.specs.List.{All, AllPairs, filter}
use Rattle.std.specs.declared.ops.Bound.TheVariants.{Included, Excluded}
use Rattle.std.specs.Ordering.{is_le, is_lt}
use Rattle.std.specs.Option.{unwrap_or}
use Rattle.std.specs.BTreeMap.Range.{range_contains}
use Rattle.std.proofs.lemmas.Bool.{cases_Bool, cond-false, eq-eqb, ne_eqb, true≢false}
use Rattle.std.proofs.lemmas.Bool.Decides.{nat_tests}
use Rattle.std.proofs.lemmas.List.{append_assoc, append-nil}
use Rattle.std.proofs.lemmas.List.Elements.{All-nil, All-cons, All-head, All-tail, All-weaker, All-filter, filter_agree}
use Rattle.pf_lemmas.proofs.Filters.{filter_same}
use Rattle.pf_scenario.proofs.Lists.{Pairs, Pairs-from_all, All_at}
use Rattle.pf_scenario.proofs.Sorting.{All-sorted_by}
use Rattle.pf_scenario.proofs.Placing.{places_of}
use Rattle.pf_scenario.proofs.Timeline.{slot_in_time}
use Rattle.pf_scenario.specs.System.{wide_horizon}
use Rattle.pf_scenario.specs.Scenario.{with_number}
use Rattle.pf_scenario.specs.Event.{slot_of, is_of_slot, in_run_order}
use Rattle.pf_scenario.specs.TimeOrder.{time_cmp, in_time_order, is_before, is_between}
use Rattle.pf_scenario.specs.Place.{place_of, place_cmp, first_of, IsPlaceable}
use Rattle.pf_scenario.specs.Index.{event_at}
use Rattle.pf_scenario.specs.declared.event.Event.{Event}
use Rattle.pf_scenario.specs.declared.event.Numbered.{Numbered}
use Rattle.pf_scenario.specs.declared.place.Place.{Place}

-- no event is of a slot past the farthest horizon
none_of : (t : ℕ) (xs : List Numbered) → wide_horizon ≤ t → All IsPlaceable xs → filter (is_of_slot t) xs ≡ []
none_of t [] far h = refl
none_of t (x ∷ xs) far h =
    let here = (All-head IsPlaceable x xs h).slot in
    cond-false (is_of_slot t x) _ _ (ne_eqb (slot_of x.event) t (λ e. omega arith)) ∙ none_of t xs far (All-tail IsPlaceable x xs h)

pub far_slot : (t : ℕ) (events : List Numbered) → wide_horizon ≤ t → All IsPlaceable events → in_run_order (filter (is_of_slot t) events) ≡ []
far_slot t events far h = ap in_run_order (none_of t events far h)

pub all_near : (events : List Numbered) → All IsPlaceable events → All (λ x. slot_of x.event < wide_horizon) events
all_near events h = All-weaker IsPlaceable (λ x. slot_of x.event < wide_horizon) (λ x p. p.slot) events h

-- the place before a slot is not after a place just where the slot is not
from_first : (t : ℕ) (q : Place) → is_le (place_cmp (first_of t) q) ≡ nat_le t q.slot
from_first t q = grind (arith, nat_tests)

-- the places from one slot to another are those of the events between
in_between : (a b : ℕ) (x : Numbered) → range_contains place_cmp (Included (first_of a)) (Excluded (first_of b)) (place_of x) ≡ is_between a b x
in_between a b x = rw (from_first a (place_of x), from_first b (place_of x)) (grind (arith, nat_tests))

filter_places : (a b : ℕ) (xs : List Numbered) → filter (range_contains place_cmp (Included (first_of a)) (Excluded (first_of b))) (map place_of xs) ≡ map place_of (filter (is_between a b) xs)
filter_places a b [] = refl
filter_places a b (x ∷ xs) =
    elim (cases_Bool (is_between a b x)) [
      | inl of ↦ rw (in_between a b x, of) (ap (λ zs. place_of x ∷ zs) (filter_places a b xs))
      | inr other ↦ rw (in_between a b x, other) (filter_places a b xs)
    ]

pub places_between : (a b : ℕ) (events : List Numbered) →
    filter (range_contains place_cmp (Included (first_of a)) (Excluded (first_of b))) (places_of events) ≡ map place_of (filter (is_between a b) (in_time_order events))
places_between a b events = filter_places a b (in_time_order events)

-- Use: the events between a slot and the next are those of the slot.
pub between_next : (t : ℕ) (events : List Numbered) → filter (is_between t (t + 1)) (in_time_order events) ≡ in_run_order (filter (is_of_slot t) events)
between_next t events = filter_agree (is_between t (t + 1)) (is_of_slot t) (λ x. grind (arith, nat_tests)) (in_time_order events) ∙ slot_in_time events t

-- Use: no event is of a slot past the farthest horizon, so those up to it are all before t.
pub all_before : (t most : ℕ) (events : List Numbered) → most ≡ min t wide_horizon → All (λ x. slot_of x.event < wide_horizon) events →
    filter (is_between 0 most) (in_time_order events) ≡ filter (is_before t) (in_time_order events)
all_before t most events is near =
    filter_same (is_between 0 most) (is_before t) (in_time_order events)
    (All-sorted_by (λ x. is_between 0 most x ≡ is_before t x) time_cmp events
    (All-weaker (λ x. slot_of x.event < wide_horizon) (λ x. is_between 0 most x ≡ is_before t x) (λ x below. same x below) events near))
  where
    same : (x : Numbered) → slot_of x.event < wide_horizon → is_between 0 most x ≡ is_before t x
    same x below = rw is (grind (arith, nat_tests))

slot_places : (t : ℕ) (events : List Numbered) → filter (range_contains place_cmp (Included (first_of t)) (Excluded (first_of (t + 1)))) (places_of events) ≡ map place_of (in_run_order (filter (is_of_slot t) events))
slot_places t events = places_between t (t + 1) events ∙ ap (map place_of) (between_next t events)

-- the later of two places is not in an earlier slot
not_before : (k q : Place) → is_lt (place_cmp k q) ≡ false → q.slot ≤ k.slot
not_before k q h = grind (arith, nat_tests)

-- a slot after all places has none of them
none_between : (t : ℕ) (ps : List Place) → All (λ q. q.slot < t) ps → filter (range_contains place_cmp (Included (first_of t)) (Excluded (first_of (t + 1)))) ps ≡ []
none_between t [] h = refl
none_between t (q ∷ ps) h =
    let low = All-head (λ (q : Place). q.slot < t) q ps h in
    cond-false (range_contains place_cmp (Included (first_of t)) (Excluded (first_of (t + 1))) q) _ _ (rw (from_first t q, from_first (t + 1) q) (grind (arith, nat_tests)))
    ∙ none_between t ps (All-tail (λ (q : Place). q.slot < t) q ps h)

none_placed : (xs : List Numbered) → map place_of xs ≡ [] → xs ≡ []
none_placed [] h = refl
none_placed (x ∷ xs) h = absurd (cc)

-- Use: the last of the places is before the slot.
pub behind_last : (t : ℕ) (events : List Numbered) (last : Place) → All (λ q. is_lt (place_cmp last q) ≡ false) (places_of events) → last.slot < t → in_run_order (filter (is_of_slot t) events) ≡ []
behind_last t events last up_to before =
    none_placed _ (sym (slot_places t events) ∙ none_between t (places_of events) (λ k d low. omega (arith, not_before last (get_or (places_of events) k d) (up_to k d low))))

no_places : (ps : List Place) → (0 < length ps → false ≡ true) → ps ≡ []
no_places [] h = refl
no_places (p ∷ ps) h = absurd (off (h (omega arith)))
  where
    off : false ≡ true → ⊥
    off h = true≢false (sym h)

-- Use: there are no places.
pub behind_none : (t : ℕ) (events : List Numbered) → (0 < length (places_of events) → false ≡ true) → in_run_order (filter (is_of_slot t) events) ≡ []
behind_none t events h =
    none_placed _ (sym (slot_places t events) ∙ ap (filter (range_contains place_cmp (Included (first_of t)) (Excluded (first_of (t + 1))))) (no_places (places_of events) h))

-- each event is found by its number
own_events : (events : List Numbered) → Pairs (λ x y. x.id < y.id) events → All (λ y. event_at events y.id ≡ Some y.event) events
own_events [] up = All-nil (λ y. event_at [] y.id ≡ Some y.event)
own_events (x ∷ xs) up =
    let here = eq-eqb x.id x.id refl in
    let rest = own_events xs up.1 in
    All-cons (λ y. event_at (x ∷ xs) y.id ≡ Some y.event) x xs (rw here refl) (later x xs up.0 rest)
  where
    later : (x : Numbered) (xs : List Numbered) → All (λ y. x.id < y.id) xs → All (λ y. event_at xs y.id ≡ Some y.event) xs → All (λ y. event_at (x ∷ xs) y.id ≡ Some y.event) xs
    later x xs above rest k d low =
        let high = above k d low in
        let found = rest k d low in
        rw (ne_eqb x.id (get_or xs k d).id (λ e. omega arith)) found

-- what was read of some of the events in time order and the places that are left
pub record IsRead (events some read : List Numbered) (left : List Place) : Type 0 where
  pub rest : List Numbered
  pub whole : read ++ rest ≡ some
  pub places : left ≡ map place_of rest

-- the next place is that of an event that is held
pub record IsNext (events some read : List Numbered) (place : Place) (left : List Place) : Type 0 where
  pub at : Numbered
  pub is : place ≡ place_of at
  pub held : event_at events at.id ≡ Some at.event
  pub then : IsRead events some (read ++ at ∷ []) left

pub next_event : (p : Numbered → Bool) (events read : List Numbered) (place : Place) (left : List Place) → AllPairs (λ x y. x.id < y.id) events →
    IsRead events (filter p (in_time_order events)) read (place ∷ left) → IsNext events (filter p (in_time_order events)) read place left
next_event p events read place left up h = by h.rest h.whole h.places
  where
    by : (rest : List Numbered) → read ++ rest ≡ filter p (in_time_order events) → place ∷ left ≡ map place_of rest → IsNext events (filter p (in_time_order events)) read place left
    by [] whole places = absurd (cc)
    by (y ∷ ys) whole places =
        let P : Numbered → Type 0 = λ y. event_at events y.id ≡ Some y.event in
        let own = All-filter p P (in_time_order events) (All-sorted_by P time_cmp events (own_events events (Pairs-from_all (λ x y. x.id < y.id) events up))) in
        record {
          at = y;
          is = cc;
          held = All_at P read y ys (subst (All P) (sym whole) own);
          then = record { rest = ys; whole = append_assoc read (y ∷ []) ys ∙ whole; places = cc };
        }

-- with no place left all is read
pub all_read : (events some read : List Numbered) → IsRead events some read [] → read ≡ some
all_read events some read h = by h.rest h.whole h.places
  where
    by : (rest : List Numbered) → read ++ rest ≡ some → [] ≡ map place_of rest → read ≡ some
    by [] whole places = sym (append-nil read) ∙ whole
    by (y ∷ ys) whole places = absurd (cc)

-- an event that was found by its number is that event
pub found_same : (id : ℕ) (event : Event) (x : Numbered) → id ≡ x.id → Some event ≡ Some x.event → with_number id event ≡ x
found_same id event x number found =
    ap (λ k. with_number k event) number ∙ ap (λ o. with_number x.id (unwrap_or o event)) found

pub none_some : {X : Type 0} (x : X) → None ≡ Some x → ⊥
none_some x h = cc
