-- The sentence of a refused change, in the scenario at the time.
use Rattle.std.specs.Prelude.{ℕ, ◌==◌, Bool, not, ◌&&◌, ◌||◌, nat_le, nat_lt, if◌then◌else◌, Option, None, Some, List, [], ◌++◌, codes, find}
use Rattle.std.specs.Option.{option_map, option_map_or, option_and_then, unwrap_or}
use Rattle.std.specs.Fmt.{decimal}
use Rattle.pf_weight.specs.declared.fault.WeightFault.{WeightFault}
use Rattle.pf_weight.specs.declared.fault.WeightFault.TheVariants.{ZeroCost, CostAbovePeriod, PeriodNotInBase}
use Rattle.pf_scenario.specs.System.{System}
use Rattle.pf_scenario.specs.Event.{slot_of, task_of}
use Rattle.pf_scenario.specs.Edit.{join_alike, leave_alike}
use Rattle.pf_scenario.specs.Scenario.{Plan, number_of_change}
use Rattle.pf_scenario.specs.declared.change.Change.{Change}
use Rattle.pf_scenario.specs.declared.change.Change.TheVariants.{Insert, Alter, Strike}
use Rattle.pf_scenario.specs.declared.event.Event.{Event}
use Rattle.pf_scenario.specs.declared.event.Event.TheVariants.{Join, Leave, Delay, Limit}
use Rattle.pf_scenario.specs.declared.event.Numbered.{Numbered}
use Rattle.pf_scenario.specs.declared.fault.EditFault.{EditFault}
use Rattle.pf_scenario.specs.declared.fault.EditFault.TheVariants.{EventNotFound, SlotOutOfRange, TaskOutOfRange, EarlyOutOfRange, BadWeight, JoinTwice, LeaveTwice, TooManyEvents, NumbersSpent}
use Rattle.pf_admit.specs.declared.denial.Denial.{Denial}
use Rattle.pf_admit.specs.declared.denial.Denial.TheVariants.{NotInside, OverCapacity, Released, TooEarly}
use Rattle.pf_desk.specs.declared.reply.Fault.{Fault}
use Rattle.pf_desk.specs.declared.reply.Fault.TheVariants.{BadEdit, AtHorizon, WouldDeny}
use Rattle.pf_notes.specs.Subject.{task_text}

-- the numbers of an event, as a record has them
abbrev pub record_text : Event → List ℕ
record_text (Join slot task cost period early) =
    codes "join," ++ decimal slot ++ codes "," ++ decimal task ++ codes "," ++ decimal cost ++ codes "," ++ decimal period ++ codes "," ++ decimal early
record_text (Leave slot task) = codes "leave," ++ decimal slot ++ codes "," ++ decimal task
record_text (Delay slot task by) = codes "delay," ++ decimal slot ++ codes "," ++ decimal task ++ codes "," ++ decimal by
record_text (Limit slot count) = codes "limit," ++ decimal slot ++ codes "," ++ decimal count

-- the event that a change brings
abbrev pub brought_by : Change → Option Event
brought_by (Insert event) = Some event
brought_by (Alter id event) = Some event
brought_by (Strike id) = None

-- the number that a change speaks of, or 0, which no event has
abbrev pub number_beside : Change → ℕ
number_beside (Insert event) = 0
number_beside (Alter id event) = id
number_beside (Strike id) = id

-- the event has another number, and joins the task which `event` joins, or leaves the one which it leaves
abbrev pub is_other : ℕ → Event → Numbered → Bool
is_other id event x = not (x.id == id) && (join_alike x.event event || leave_alike x.event event)

-- the number of the first such event held
abbrev pub other_of : Plan → Change → Event → Option ℕ
other_of s change event = option_map (λ x. x.id) (find (is_other (number_beside change) event) s.events)

-- a number that no event has, where the next one is this: it was given, or not
abbrev pub missing_text : ℕ → ℕ → List ℕ
missing_text next id =
    if nat_le 1 id && nat_lt id next then codes "event " ++ decimal id ++ codes " was struck out"
    else codes "no event has the number " ++ decimal id ++ codes ", the next one is " ++ decimal next

-- cost and period that are no weight over the base
abbrev pub weight_text : ℕ → ℕ → ℕ → WeightFault → List ℕ
weight_text base cost period ZeroCost = codes "the cost is 0"
weight_text base cost period CostAbovePeriod = codes "the cost " ++ decimal cost ++ codes " is above the period " ++ decimal period
weight_text base cost period PeriodNotInBase = codes "the period " ++ decimal period ++ codes " does not divide the base " ++ decimal base

-- the other event of the task's joins or leaves
abbrev pub other_text : Option (List ℕ) → List ℕ → ℕ → ℕ → List ℕ
other_text name word task id = codes "event " ++ decimal id ++ word ++ task_text name task

-- an event of which a number of its own is out of range
abbrev pub join_text : ℕ → ℕ → ℕ → ℕ → EditFault → List ℕ
join_text base cost period early EarlyOutOfRange = codes "early " ++ decimal early ++ codes " is above 1048576"
join_text base cost period early (BadWeight fault) = weight_text base cost period fault
join_text base cost period early fault = []

abbrev pub number_text : System → Event → EditFault → List ℕ
number_text s (Join slot task cost period early) fault = join_text s.base cost period early fault
number_text s (Delay slot task by) fault = codes "by " ++ decimal by ++ codes " is not within 1 to " ++ decimal 1048576
number_text s (Limit slot count) fault = codes "count " ++ decimal count ++ codes " is not within 1 to " ++ decimal s.processors
number_text s (Leave slot task) fault = []

-- the task of an event; a limit has none
abbrev pub task_or_none : Event → ℕ
task_or_none event = unwrap_or (task_of event) 0

-- an event that fails a test; `other` is the number of the event that joins or leaves its task, too
abbrev pub event_text : Option (List ℕ) → System → Option ℕ → Event → EditFault → List ℕ
event_text name s other event SlotOutOfRange =
    codes "slot " ++ decimal (slot_of event) ++ codes " is not below the horizon " ++ decimal s.horizon
event_text name s other event TaskOutOfRange =
    codes "task " ++ decimal (task_or_none event) ++ codes " is not within 1 to " ++ decimal 4095
event_text name s other event JoinTwice = option_map_or (other_text name (codes " joins ") (task_or_none event)) other []
event_text name s other event LeaveTwice =
    option_map_or (other_text name (codes " is the leave of ") (task_or_none event)) other []
event_text name s other event fault = number_text s event fault

-- a change with a fault
abbrev pub change_text : Option (List ℕ) → Plan → Change → EditFault → List ℕ
change_text name s change EventNotFound = missing_text s.next (number_of_change s change)
change_text name s change TooManyEvents = codes "65535 events are held"
change_text name s change NumbersSpent = codes "number 1048575 was given"
change_text name s change fault =
    option_map_or (λ event. event_text name s.settings (other_of s change event) event fault) (brought_by change) []

-- the event of this number as a change leaves it
abbrev pub left_event : Plan → Change → ℕ → Option Event
left_event s change id =
    if id == number_of_change s change then brought_by change
    else option_map (λ x. x.event) (find (λ x. x.id == id) s.events)

-- why an event would be denied
abbrev pub denied_text : Denial → List ℕ
denied_text OverCapacity = codes "it asks for more than is free"
denied_text NotInside = codes "its task is not inside"
denied_text TooEarly = codes "it leaves too early"
denied_text Released = codes "its quantum was released already"

-- a strict change that would leave this event denied
abbrev pub would_deny_text : Plan → Change → ℕ → Denial → List ℕ
would_deny_text s change id denial =
    codes "event " ++ decimal id ++ codes ", " ++ option_map_or record_text (left_event s change id) [] ++ codes ", would be denied: " ++ denied_text denial

-- why a change was refused in the scenario s, of a task with this name
abbrev pub refusal_text : Option (List ℕ) → Plan → Change → Fault → List ℕ
refusal_text name s change (BadEdit fault) = change_text name s change fault
refusal_text name s change (WouldDeny id denial) = would_deny_text s change id denial
refusal_text name s change AtHorizon = []

-- so many of a record's steps at the horizon
abbrev pub horizon_text : ℕ → ℕ → ℕ → List ℕ
horizon_text horizon refused steps =
    decimal horizon ++ codes " slots are the horizon, " ++ decimal refused ++ codes " of " ++ decimal steps ++ codes " steps were refused"

-- the event that a refusal names: of another join, of another leave, and of the denial that a strict change would leave
abbrev pub named_by : Plan → Change → Fault → Option ℕ
named_by s change (WouldDeny id denial) = Some id
named_by s change (BadEdit JoinTwice) = option_and_then (other_of s change) (brought_by change)
named_by s change (BadEdit LeaveTwice) = option_and_then (other_of s change) (brought_by change)
named_by s change fault = None
