-- A script that a desk is written as: what it tells.
use Rattle.std.specs.Prelude.{ℕ, ◌≡◌, ◌≤◌, ◌+◌, ◌==◌, Bool, true, false, if◌then◌else◌, None, Some, List, [], ◌∷◌, ◌++◌, map, All}
use Rattle.pf_scenario.specs.System.{System, near_horizon}
use Rattle.pf_scenario.specs.Edit.{IsScenario}
use Rattle.pf_scenario.specs.declared.event.Event.{Event}
use Rattle.pf_scenario.specs.declared.event.Event.TheVariants.{Limit}
use Rattle.pf_scenario.specs.declared.event.Numbered.{Numbered}
use Rattle.pf_scenario.specs.declared.change.Change.TheVariants.{Insert}
use Rattle.pf_scenario.specs.Limits.{largest_distance}
use Rattle.pf_desk.specs.Desk.{Seen}
use Rattle.pf_vocabulary.specs.Names.Titled.{untitled}
use Rattle.pf_report.specs.Script.{script_text_of}
use Rattle.pf_script.specs.declared.version.Version.{Version}
use Rattle.pf_script.specs.declared.version.Version.TheVariants.{First, Second}
use Rattle.pf_script.specs.declared.line.Line.{Line}
use Rattle.pf_script.specs.declared.line.Line.TheVariants.{Edit, Steps}
use Rattle.pf_script.specs.declared.record.LineTold.{LineTold}
use Rattle.pf_script.specs.Told.{Told, told}

-- the version of the scripts that have these settings
abbrev pub version_of : System → Version
version_of settings = if settings.horizon == near_horizon then First else Second

abbrev pub is_limit : Event → Bool
is_limit (Limit slot count) = true
is_limit event = false

-- a script opens a desk with checkpoints so far apart
pub record IsDistance (every : ℕ) : Type 0 where
  pub some : 1 ≤ every
  pub within : every ≤ largest_distance

-- what a script can say of a snapshot: a scenario, steps up to the horizon, a distance of checkpoints, and limits in wide
-- settings alone
pub record CanBeWritten (every : ℕ) (seen : Seen) : Type 0 where
  pub scenario : IsScenario seen.state.plan
  pub stepped : seen.state.now ≤ seen.state.plan.settings.horizon
  pub distance : IsDistance every
  pub limits : (seen.state.plan.settings.horizon ≡ near_horizon) → All (λ x. is_limit x.event ≡ false) seen.state.plan.events

-- its lines: each event is inserted, and then the steps
abbrev pub insert_lines : List Numbered → List Line
insert_lines events = map (λ x. Edit (Insert x.event) false) events

abbrev pub step_lines : ℕ → List Line
step_lines n = if n == 0 then [] else Steps n ∷ []

-- as records from this number on
abbrev pub lines_told : ℕ → List Line → List LineTold
lines_told number [] = []
lines_told number (line ∷ lines) = record { number = number; asks = line } ∷ lines_told (number + 1) lines

-- the number of the first record after the settings: a heading stands before those that are wide
abbrev pub first_number : System → ℕ
first_number settings = if settings.horizon == near_horizon then 2 else 3

-- the settings, and these lines after them, none of them bad
abbrev pub told_of : ℕ → System → List Line → Told
told_of every settings lines = record {
  opening = Some (record { version = version_of settings; settings = settings; every = every });
  rest = record { lines = lines_told (first_number settings) lines; fault = None };
}

-- Scripts are read again: the script of a snapshot tells its settings, an insert of each event held, and the steps.
abbrev pub ScriptsAreReadAgain : Type 0
ScriptsAreReadAgain =
    (every : ℕ) (seen : Seen) → CanBeWritten every seen
    → told (script_text_of every seen untitled) ≡ told_of every seen.state.plan.settings (insert_lines seen.state.plan.events ++ step_lines seen.state.now)
