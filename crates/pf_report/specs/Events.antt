-- The events held, as a table.
use Rattle.std.specs.Prelude.{ℕ, Option, None, Some, List, [], ◌∷◌, codes, map}
use Rattle.std.specs.Option.{option_map_or}
use Rattle.std.specs.Fmt.{decimal}
use Rattle.pf_scenario.specs.declared.event.Event.{Event}
use Rattle.pf_scenario.specs.declared.event.Event.TheVariants.{Join, Leave, Delay, Limit}
use Rattle.pf_scenario.specs.declared.event.Numbered.{Numbered}
use Rattle.pf_desk.specs.Desk.{Seen}
use Rattle.pf_text.specs.Page.{table_text}

-- a number, or nothing where the kind of event has none
abbrev pub number_field : Option ℕ → List ℕ
number_field number = option_map_or decimal number []

-- a record of the table: the event's number, slot and kind, and then its task, cost, period, early, by and count
abbrev pub event_fields : ℕ → ℕ → List ℕ → List (Option ℕ) → List (List ℕ)
event_fields id slot kind numbers = decimal id ∷ decimal slot ∷ kind ∷ map number_field numbers

abbrev pub record_of : ℕ → Event → List (List ℕ)
record_of id (Join slot task cost period early) =
    event_fields id slot (codes "join") (Some task ∷ Some cost ∷ Some period ∷ Some early ∷ None ∷ None ∷ [])
record_of id (Leave slot task) =
    event_fields id slot (codes "leave") (Some task ∷ None ∷ None ∷ None ∷ None ∷ None ∷ [])
record_of id (Delay slot task by) =
    event_fields id slot (codes "delay") (Some task ∷ None ∷ None ∷ None ∷ Some by ∷ None ∷ [])
record_of id (Limit slot count) =
    event_fields id slot (codes "limit") (None ∷ None ∷ None ∷ None ∷ None ∷ Some count ∷ [])

abbrev pub event_record : Numbered → List (List ℕ)
event_record x = record_of x.id x.event

abbrev pub events_heading : List (List ℕ)
events_heading =
    codes "event" ∷ codes "slot" ∷ codes "kind" ∷ codes "task" ∷ codes "cost" ∷ codes "period" ∷ codes "early" ∷ codes "by"
    ∷ codes "count" ∷ []

-- the events held, by number
unfoldable pub events_text : Seen → List ℕ
events_text seen = table_text (events_heading ∷ map event_record seen.state.plan.events)
