-- The stay of a task in a run, and its lag through it.
use Rattle.std.specs.Prelude.{ℕ, ◌≤◌, ℤ, List, length, filter_map, Contains}
use Rattle.pf_scenario.specs.Scenario.{Plan}
use Rattle.pf_run.specs.Record.{Slot}
use Rattle.pf_run.specs.Inside.{Joined, join_of}
use Rattle.pf_run.specs.Run.{events_in_force}
use Rattle.pf_tally.specs.Figures.{scaled_at, last_slot}

-- the task was admitted in the run r of the scenario
abbrev pub IsAdmitted : Plan → List Slot → Joined → Type 0
IsAdmitted s r j = Contains (filter_map (join_of s.settings.base) (events_in_force s r (length r))) j

-- after t slots the task had joined, and had not left before
pub record IsStay (s : Plan) (r : List Slot) (j : Joined) (t : ℕ) : Type 0 where
  pub from : j.slot ≤ t
  pub upto : t ≤ last_slot (events_in_force s r (length r)) j (length r)

-- its scaled lag after t slots, in units of one part of a quantum in its period
abbrev pub lag_after : Plan → List Slot → Joined → ℕ → ℤ
lag_after s r j t = scaled_at r (events_in_force s r (length r)) j t
