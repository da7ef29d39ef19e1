-- The rows and the denials of a scenario's run.
use Rattle.std.specs.Prelude.{◌≡◌, ℕ, ◌≤◌, Option, List, [], ◌∷◌, ◌++◌, length}
use Rattle.pf_place.specs.Pick.{Pick}
use Rattle.pf_place.specs.RunRows.{rows_of}
use Rattle.pf_scenario.specs.Scenario.{Plan}
use Rattle.pf_scenario.specs.Edit.{IsScenario}
use Rattle.pf_run.specs.declared.denied.Denied.{Denied}
use Rattle.pf_run.specs.Record.{Slot, denials_of}
use Rattle.pf_run.specs.Inside.{count_of}
use Rattle.pf_run.specs.Run.{events_in_force}
use Rattle.pf_run.specs.Computed.{run_of}

-- how many processors are in use in the last slot of a record
abbrev pub count_in_last : Plan → List Slot → ℕ
count_in_last s r = count_of s.settings.processors (events_in_force s r (length r))

-- the turns of the slots that follow the slots r: in each how many processors are in use, and the picks
abbrev pub turns_behind : Plan → List Slot → List Slot → List (ℕ × List Pick)
turns_behind s r [] = []
turns_behind s r (slot ∷ slots) =
    (count_in_last s (r ++ slot ∷ []), slot.picks) ∷ turns_behind s (r ++ slot ∷ []) slots

-- the turns of a record's slots
abbrev pub turns_of : Plan → List Slot → List (ℕ × List Pick)
turns_of s r = turns_behind s [] r

-- the rows of the scenario's run over n slots: who sits where in each
unfoldable pub rows_in : Plan → ℕ → List (List (Option Pick))
rows_in s n = rows_of s.settings.processors (turns_of s (run_of s n))

-- the denials of that run
unfoldable pub denials_in : Plan → ℕ → List Denied
denials_in s n = denials_of (run_of s n)

-- these are the rows and the denials of the scenario's run over n slots
pub record AreOfRun (s : Plan) (n : ℕ) (rows : List (List (Option Pick))) (denials : List Denied) : Type 0 where
  pub scenario : IsScenario s
  pub within : n ≤ s.settings.horizon
  pub are_rows : rows ≡ rows_in s n
  pub are_denials : denials ≡ denials_in s n
