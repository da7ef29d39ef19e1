-- When a change is refused, and what therefore holds of every scenario.
use Rattle.std.specs.Prelude.{◌≡◌, ℕ, ◌+◌, ◌<◌, ◌≤◌, ◌==◌, Bool, true, false, ◌&&◌, not, nat_le, nat_lt, Option, None, Some, List, [], length, All, AllPairs}
use Rattle.std.specs.List.{list_any}
use Rattle.std.specs.Option.{option_map, option_map_or}
use Rattle.pf_weight.specs.Weighed.{weight_fault}
use Rattle.pf_weight.specs.declared.task.TheConstants.{LARGEST_TASK}
use Rattle.pf_scenario.specs.System.{System, IsSystem}
use Rattle.pf_scenario.specs.Event.{slot_of, task_of}
use Rattle.pf_scenario.specs.Scenario.{Plan, is_held, events_without}
use Rattle.pf_scenario.specs.declared.limits.TheConstants.{MOST_EARLY, LONGEST_DELAY}
use Rattle.pf_scenario.specs.declared.scenario.TheConstants.{MOST_EVENTS, LAST_NUMBER}
use Rattle.pf_scenario.specs.declared.event.Event.{Event}
use Rattle.pf_scenario.specs.declared.event.Event.TheVariants.{Join, Leave, Delay, Limit}
use Rattle.pf_scenario.specs.declared.event.Numbered.{Numbered}
use Rattle.pf_scenario.specs.declared.change.Change.{Change}
use Rattle.pf_scenario.specs.declared.change.Change.TheVariants.{Insert, Alter, Strike}
use Rattle.pf_scenario.specs.declared.fault.EditFault.{EditFault}
use Rattle.pf_scenario.specs.declared.fault.EditFault.TheVariants.{EventNotFound, SlotOutOfRange, TaskOutOfRange, EarlyOutOfRange, DelayOutOfRange, CountOutOfRange, BadWeight, JoinTwice, LeaveTwice, TooManyEvents, NumbersSpent}

-- n is 1 to most
abbrev pub is_within : ℕ → ℕ → Bool
is_within most n = nat_le 1 n && nat_le n most

abbrev pub has_task : Event → Bool
has_task event = option_map_or (λ task. is_within LARGEST_TASK task) (task_of event) true

abbrev pub has_early : Event → Bool
has_early (Join slot task cost period early) = nat_le early MOST_EARLY
has_early event = true

abbrev pub has_delay : Event → Bool
has_delay (Delay slot task by) = is_within LONGEST_DELAY by
has_delay event = true

abbrev pub has_count : ℕ → Event → Bool
has_count processors (Limit slot count) = is_within processors count
has_count processors event = true

-- why the weight of a join is refused
abbrev pub bad_weight : ℕ → Event → Option EditFault
bad_weight base (Join slot task cost period early) = option_map (λ f. BadWeight f) (weight_fault base cost period)
bad_weight base event = None

-- both events join one task, or both leave one
abbrev pub join_alike : Event → Event → Bool
join_alike (Join slot task cost period early) (Join slot' task' cost' period' early') = task == task'
join_alike x y = false

abbrev pub leave_alike : Event → Event → Bool
leave_alike (Leave slot task) (Leave slot' task') = task == task'
leave_alike x y = false

-- the first of two faults
abbrev pub or_else : Option EditFault → Option EditFault → Option EditFault
or_else None g = g
or_else (Some f) g = Some f

-- the fault, unless the test is true
abbrev pub unless : Bool → EditFault → Option EditFault
unless true f = None
unless false f = Some f

-- the first of the tests that an event fails, beside these other events
abbrev pub event_fault : System → List Numbered → Event → Option EditFault
event_fault settings others event =
    or_else (unless (nat_lt (slot_of event) settings.horizon) SlotOutOfRange)
    (or_else (unless (has_task event) TaskOutOfRange)
    (or_else (unless (has_early event) EarlyOutOfRange)
    (or_else (unless (has_delay event) DelayOutOfRange)
    (or_else (unless (has_count settings.processors event) CountOutOfRange)
    (or_else (bad_weight settings.base event)
    (or_else (unless (not (list_any (λ x. join_alike x.event event) others)) JoinTwice)
    (unless (not (list_any (λ x. leave_alike x.event event) others)) LeaveTwice)))))))

-- why a change is refused, if it is: the first of the tests, in the order of the table of refusals, that fails
abbrev pub edit_fault : Plan → Change → Option EditFault
edit_fault s (Insert event) =
    or_else (event_fault s.settings s.events event)
    (or_else (unless (nat_lt (length s.events) MOST_EVENTS) TooManyEvents)
    (unless (nat_le s.next LAST_NUMBER) NumbersSpent))
edit_fault s (Alter id event) =
    or_else (unless (is_held s.events id) EventNotFound) (event_fault s.settings (events_without id s.events) event)
edit_fault s (Strike id) = unless (is_held s.events id) EventNotFound

-- the event is within its limits
abbrev pub IsEvent : System → Event → Type 0
IsEvent settings event = event_fault settings [] event ≡ None

-- what holds of every scenario: numbers are given from 1 on, those of the events rise and are below the next one, no
-- task joins twice or leaves twice, each event is within its limits, and there are not too many
pub record IsScenario (s : Plan) : Type 0 where
  pub settings : IsSystem s.settings
  pub rising : AllPairs (λ x y. x.id < y.id) s.events
  pub given : All (λ x. (1 ≤ x.id) × (x.id < s.next)) s.events
  pub next_some : 1 ≤ s.next
  pub next_within : s.next ≤ LAST_NUMBER + 1
  pub joins_once : AllPairs (λ x y. join_alike x.event y.event ≡ false) s.events
  pub leaves_once : AllPairs (λ x y. leave_alike x.event y.event ≡ false) s.events
  pub limits : All (λ x. IsEvent s.settings x.event) s.events
  pub few : length s.events ≤ MOST_EVENTS
