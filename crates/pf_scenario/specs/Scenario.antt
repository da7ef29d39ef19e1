-- What is planned: a scenario, and what a change makes of it.
use Rattle.std.specs.Prelude.{ℕ, zero, suc, ◌+◌, ◌==◌, Bool, not, if◌then◌else◌, Option, Some, List, [], ◌∷◌, ◌++◌, map, filter, find, min}
use Rattle.std.specs.List.{list_any}
use Rattle.std.specs.Option.{option_map}
use Rattle.pf_scenario.specs.System.{System}
use Rattle.pf_scenario.specs.Event.{slot_of, is_of_slot, in_run_order}
use Rattle.pf_scenario.specs.declared.event.Event.{Event}
use Rattle.pf_scenario.specs.declared.event.Numbered.{Numbered}
use Rattle.pf_scenario.specs.declared.change.Change.{Change}
use Rattle.pf_scenario.specs.declared.change.Change.TheVariants.{Insert, Alter, Strike}

-- a scenario: its settings, its events by number, and the number that the next new event gets
pub record Plan : Type 0 where
  pub settings : System
  pub events : List Numbered
  pub next : ℕ

-- the opening scenario
abbrev pub opening_plan : System → Plan
opening_plan settings = record { settings = settings; events = []; next = 1 }

-- an event with its number
abbrev pub with_number : ℕ → Event → Numbered
with_number id event = record { id = id; event = event }

-- the event of this number is held
abbrev pub is_held : List Numbered → ℕ → Bool
is_held events id = list_any (λ x. x.id == id) events

-- the events of other numbers
abbrev pub events_without : ℕ → List Numbered → List Numbered
events_without id events = filter (λ x. not (x.id == id)) events

-- the scenario after a change: insert appends under the next number, alter replaces, strike filters out
abbrev pub plan_after : Plan → Change → Plan
plan_after s (Insert event) = record s { events = s.events ++ with_number s.next event ∷ []; next = s.next + 1 }
plan_after s (Alter id event) = record s { events = map (λ x. if x.id == id then with_number id event else x) s.events }
plan_after s (Strike id) = record s { events = events_without id s.events }

-- the number of the event that a change concerns
abbrev pub number_of_change : Plan → Change → ℕ
number_of_change s (Insert event) = s.next
number_of_change s (Alter id event) = id
number_of_change s (Strike id) = id

-- the slot of the event of this number, where it is held
abbrev pub held_slot : List Numbered → ℕ → Option ℕ
held_slot events id = option_map (λ x. slot_of x.event) (find (λ x. x.id == id) events)

-- the least slot that a change touches, where the event that it speaks of is held
abbrev pub slot_touched : Plan → Change → Option ℕ
slot_touched s (Insert event) = Some (slot_of event)
slot_touched s (Alter id event) = option_map (λ t. min t (slot_of event)) (held_slot s.events id)
slot_touched s (Strike id) = held_slot s.events id

-- the events of slot t, in run order
unfoldable pub events_of : Plan → ℕ → List Numbered
events_of s t = in_run_order (filter (is_of_slot t) s.events)

-- the events of the slots below t, in run order
abbrev pub past : Plan → ℕ → List Numbered
past s zero = []
past s (suc t) = past s t ++ events_of s t
