-- What an agenda keeps beside its events: their places in time, and the numbers of the joins and leaves of each task.
use Rattle.std.specs.Prelude.{◌≡◌, ℕ, ◌+◌, ◌≤◌, Bool, true, false, ◌==◌, ◌<◌, if◌then◌else◌, Option, List, [], ◌∷◌, length, map, find, slice_index, All, AllPairs}
use Rattle.std.specs.Option.{option_map}
pub use Rattle.pf_scenario.specs.Event.{is_join_of, is_leave_of}
use Rattle.pf_scenario.specs.Scenario.{with_number}
use Rattle.pf_scenario.specs.TimeOrder.{in_time_order}
use Rattle.pf_scenario.specs.Edit.{join_alike, leave_alike}
use Rattle.pf_scenario.specs.Place.{place_of, IsPlaceable}
use Rattle.pf_scenario.specs.Cards.{IsSmall}
use Rattle.pf_scenario.specs.declared.event.Event.{Event}
use Rattle.pf_scenario.specs.declared.event.Numbered.{Numbered}
use Rattle.pf_scenario.specs.declared.place.Place.{Place}

-- the number of the first event that passes a test, or 0
abbrev pub first_number_of : (Event → Bool) → List Numbered → ℕ
first_number_of p [] = 0
first_number_of p (x ∷ xs) = if p x.event then x.id else first_number_of p xs

-- two events of different numbers, not both joining one task, and not both leaving one
pub record AreDistinctEvents (x y : Numbered) : Type 0 where
  pub numbers : (x.id == y.id) ≡ false
  pub joins : join_alike x.event y.event ≡ false
  pub leaves : leave_alike x.event y.event ≡ false

-- the event of this number, where it is held
abbrev pub event_at : List Numbered → ℕ → Option Event
event_at events id = option_map (λ x. x.event) (find (λ x. x.id == id) events)

-- the events with this event under this number
abbrev pub with_event : ℕ → Event → List Numbered → List Numbered
with_event id event events = map (λ x. if x.id == id then with_number id event else x) events

-- the places of the events in time order, and by task the numbers of the joins and of the leaves; 0 where there is none
pub record IsIndexed (events : List Numbered) (places : List Place) (joins leaves : List ℕ) : Type 0 where
  pub rising : AllPairs (λ x y. x.id < y.id) events
  pub apart : AllPairs AreDistinctEvents events
  pub given : All (λ x. 1 ≤ x.id) events
  pub placeable : All IsPlaceable events
  pub placed : places ≡ map place_of (in_time_order events)
  pub joined : (t : ℕ) → slice_index joins t ≡ first_number_of (is_join_of t) events
  pub left : (t : ℕ) → slice_index leaves t ≡ first_number_of (is_leave_of t) events

-- the event can be held beside these
pub record IsNewEvent (x : Numbered) (events : List Numbered) : Type 0 where
  pub given : 1 ≤ x.id
  pub placeable : IsPlaceable x
  pub small : IsSmall x
  pub apart : All (λ y. AreDistinctEvents y x) events

-- the table has a place for the task of the event
pub record HasTaskRoom (joins leaves : List ℕ) (event : Event) : Type 0 where
  pub join_place : (t : ℕ) → is_join_of t event ≡ true → t + 1 ≤ length joins
  pub leave_place : (t : ℕ) → is_leave_of t event ≡ true → t + 1 ≤ length leaves

-- the number is noted at the task of the event, if it is of this kind, and all else stays
abbrev pub Notes : (ℕ → Event → Bool) → List ℕ → List ℕ → Event → ℕ → Type 0
Notes is_of old new event number =
    (t : ℕ) → slice_index new t ≡ (if is_of t event then number else slice_index old t)
