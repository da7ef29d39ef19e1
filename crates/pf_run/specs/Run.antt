-- The run of a scenario.
use Rattle.std.specs.Prelude.{◌≡◌, ℕ, suc, ◌<◌, List, [], ◌∷◌, ◌++◌, length, take, map, slice_index_or}
use Rattle.pf_place.specs.Priority.{Priority}
use Rattle.pf_place.specs.First.{AreFirst}
use Rattle.pf_place.specs.Pick.{Pick}
use Rattle.pf_scenario.specs.Scenario.{Plan, events_of, past}
use Rattle.pf_scenario.specs.declared.event.Numbered.{Numbered}
use Rattle.pf_run.specs.Record.{Slot, denials_of, in_force}
use Rattle.pf_run.specs.Inside.{ready, count_of}
use Rattle.pf_run.specs.Denials.{denials_behind}

-- the events in force after those of the slots below t, by a record's denials
abbrev pub events_in_force : Plan → List Slot → ℕ → List Numbered
events_in_force s r t = in_force (denials_of r) (past s t)

-- the subtask that a key is of
abbrev pub pick_of_key : Priority → Pick
pick_of_key k = record { task = k.task; sub = k.sub }

-- the picks of the slot after r, where the events xs are in force: the first of the eligible subtasks, as many as
-- there are processors in use
pub record ArePicks (s : Plan) (r : List Slot) (xs : List Numbered) (picks : List Pick) : Type 0 where
  pub chosen : List Priority
  pub are_first : AreFirst (count_of s.settings.processors xs) (ready s.settings.base r xs) chosen
  pub subtasks : picks ≡ map pick_of_key chosen

-- `slot` is the slot of the scenario's run that follows the slots r
pub record IsNextSlot (s : Plan) (r : List Slot) (slot : Slot) : Type 0 where
  pub denials : slot.denials ≡
      denials_behind s.settings r (denials_of (r ++ slot ∷ [])) (past s (length r)) (events_of s (length r))
  pub picks : ArePicks s r (events_in_force s (r ++ slot ∷ []) (suc (length r))) slot.picks

-- r is the run of the scenario over n slots
pub record IsRun (s : Plan) (n : ℕ) (r : List Slot) : Type 0 where
  pub slots : length r ≡ n
  pub each : (t : ℕ) (d : Slot) → t < n → IsNextSlot s (take t r) (slice_index_or r t d)
