-- What an engine keeps, and when it fits a scenario and a run of it.
use Rattle.std.specs.Prelude.{◌≡◌, ℕ, ◌+◌, ◌<◌, List, [], ◌∷◌, ◌++◌, length, map}
use Rattle.pf_scenario.specs.System.{System}
use Rattle.pf_scenario.specs.Scenario.{Plan, events_of}
use Rattle.pf_scenario.specs.Edit.{IsScenario}
use Rattle.pf_scenario.specs.declared.event.Numbered.{Numbered}
use Rattle.pf_run.specs.Record.{Slot}
use Rattle.pf_run.specs.Inside.{Joined, inside, load_of, count_of, member_of}
use Rattle.pf_run.specs.Run.{events_in_force, IsNextSlot, IsRun}
pub use Rattle.pf_engine.specs.declared.kept_task.KeptTask.{KeptTask}

-- what an engine keeps: its settings, the number of slots that it took, the tasks inside in the order of their joins,
-- their load, and how many processors were in use last
pub record Kept : Type 0 where
  pub settings : System
  pub now : ℕ
  pub tasks : List KeptTask
  pub load : ℕ
  pub count : ℕ

-- a task inside after the slots r, where the events xs are in force
abbrev pub kept_task : List Slot → List Numbered → Joined → KeptTask
kept_task r xs j = record { task = j.task; member = member_of r xs j }

-- what is kept after the slots r, where the events xs are in force
unfoldable pub kept_after : System → List Slot → List Numbered → Kept
kept_after s r xs = record {
  settings = s;
  now = length r;
  tasks = map (kept_task r xs) (inside s.base xs);
  load = load_of s.base xs;
  count = count_of s.processors xs;
}

-- the engine keeps what the scenario and its run r give
pub record Fits (s : Plan) (r : List Slot) (e : Kept) : Type 0 where
  pub is_run : IsRun s (length r) r
  pub keeps : e ≡ kept_after s.settings r (events_in_force s r (length r))

-- what a slot of an engine gives: the slot, and how many processors are in use in it
pub record Taken : Type 0 where
  pub slot : Slot
  pub count : ℕ

-- an engine can take these events: they are those of its slot, in run order, in some scenario that it fits, and the
-- slot is below the horizon
pub record CanTake (e : Kept) (events : List Numbered) : Type 0 where
  pub scenario : Plan
  pub run : List Slot
  pub is_scenario : IsScenario scenario
  pub fits : Fits scenario run e
  pub are_events : events ≡ events_of scenario (length run)
  pub below : length run < scenario.settings.horizon

-- the slot is the next of the run, with its count, and the engine then fits the longer run
pub record TakesSlot (s : Plan) (r : List Slot) (taken : Taken) (e : Kept) : Type 0 where
  pub next : IsNextSlot s r taken.slot
  pub count : taken.count ≡ count_of s.settings.processors (events_in_force s (r ++ taken.slot ∷ []) (length r + 1))
  pub fits : Fits s (r ++ taken.slot ∷ []) e
