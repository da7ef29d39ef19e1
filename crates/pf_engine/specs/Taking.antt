-- What a slot asks of an engine, and what it makes of it, from what it keeps alone.
use Rattle.std.specs.Prelude.{◌≡◌, ◌≢◌, ℕ, ◌+◌, ◌<◌, ◌≤◌, true, None, List, length, map, drop, All, AllPairs, Contains}
use Rattle.pf_order.specs.Priority.{Priority}
use Rattle.pf_order.specs.First.{AreFirst}
use Rattle.pf_order.specs.declared.pick.Pick.{Pick}
use Rattle.pf_calendar.specs.Queues.{Queues}
use Rattle.pf_scenario.specs.Event.{is_join_of}
use Rattle.pf_scenario.specs.Edit.{IsEvent}
use Rattle.pf_scenario.specs.declared.scenario.TheConstants.{MOST_EVENTS}
use Rattle.pf_scenario.specs.declared.settings.TheConstants.{WIDE_HORIZON}
use Rattle.pf_scenario.specs.declared.event.Event.{Event}
use Rattle.pf_scenario.specs.declared.event.Numbered.{Numbered}
use Rattle.pf_run.specs.Inside.{next_key}
use Rattle.pf_run.specs.Run.{pick_of_key}
use Rattle.pf_engine.specs.Fits.{KeptTask, Kept, Taken}
use Rattle.pf_engine.specs.Kept.{member_in, kept_after_event, kept_after_events, denials_of_slot, ready_keys, kept_after_picks}
use Rattle.pf_engine.specs.Engines.{tasks_of, IsInside, IsEngine}
use Rattle.pf_engine.specs.Agenda.{TakesFirst, IsAgenda}

-- this event can be taken: it is within its limits, a task that it joins isn't inside, one more task finds a place, and
-- what is kept afterwards is within its limits, too
pub record CanTakeEvent (e : Kept) (event : Event) : Type 0 where
  pub limits : IsEvent e.settings event
  pub absent : (task : ℕ) → is_join_of task event ≡ true → member_in e.tasks task ≡ None
  pub few : length e.tasks < MOST_EVENTS
  pub next : IsEngine (kept_after_event e event)

-- what a slot of these events gives, and what is kept after it
pub record Advances (e : Kept) (events : List Numbered) (taken : Taken) (e' : Kept) : Type 0 where
  pub chosen : List Priority
  pub are_first : AreFirst (kept_after_events e events).count (ready_keys (kept_after_events e events)) chosen
  pub picks : taken.slot.picks ≡ map pick_of_key chosen
  pub denials : taken.slot.denials ≡ denials_of_slot e events
  pub count : taken.count ≡ (kept_after_events e events).count
  pub after : e' ≡ kept_after_picks (kept_after_events e events) (map pick_of_key chosen)

-- these keys can be run in the slot: they are of different ones of these tasks, each is the next one of its task, and no
-- task ran more often than slots were taken
pub record CanRun (slot : ℕ) (tasks : List KeptTask) (keys : List Priority) : Type 0 where
  pub slot_within : slot ≤ WIDE_HORIZON
  pub inside : All IsInside tasks
  pub apart : (task : ℕ) → tasks_of task tasks ≤ 1
  pub done : All (λ k. k.member.done ≤ slot) tasks
  pub next : (q : Priority) → Contains keys q → (k : KeptTask) × Contains tasks k × (q ≡ next_key k.task k.member)
  pub differ : AllPairs (λ x y. x.task ≢ y.task) keys

-- these are the picks of the first ready keys, in order, which were taken out
pub record Chooses (old new : Queues) (picks : List Pick) : Type 0 where
  pub keys : List Priority
  pub are : picks ≡ map pick_of_key keys
  pub first : TakesFirst old new keys

-- these picks are those of keys that could be run in the slot when there were the tasks `start`; so many of them were run
-- since, and the keys of the others are away still
pub record AreBeingRun (slot : ℕ) (start : List KeptTask) (picks : List Pick) (run : ℕ) (tasks : List KeptTask) (q : Queues) : Type 0 where
  pub keys : List Priority
  pub are : picks ≡ map pick_of_key keys
  pub can : CanRun slot start keys
  pub agenda : IsAgenda q (slot + 1) tasks (drop run keys)
