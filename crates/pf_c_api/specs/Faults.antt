-- What a check tells of bad records.
use Rattle.std.specs.Prelude.{ℕ, ◌≡◌, ◌<◌, Bool, true, false, if◌then◌else◌, List, [], ◌++◌, length}
use Rattle.std.specs.List.{flat_map}
use Rattle.pf_script.specs.Check.Reports.{report_text}
use Rattle.pf_script.specs.PlanCheck.Checked.{faults as plan_faults, is_plan}
use Rattle.pf_script.specs.PlanCheck.Reports.{FaultShown, plan_report_text}
use Rattle.pf_text.specs.Rows.Rows.{rows}
use Rattle.pf_script.specs.Told.{FaultTold, Reading, faults, faults_in}

-- a line for each fault
abbrev pub fault_lines : List FaultTold → List ℕ
fault_lines faults = flat_map report_text faults

-- the same of a plan
abbrev pub plan_lines : List FaultShown → List ℕ
plan_lines faults = flat_map plan_report_text faults

-- the lines of the faults of a script
abbrev pub script_lines : List ℕ → List ℕ
script_lines script =
    if is_plan (rows script) then plan_lines (plan_faults (rows script)) else fault_lines (faults script)

-- one record more was read, and what was told and what is left to tell make the same text
pub record IsOneOn (old new : List Reading) (text added : List ℕ) : Type 0 where
  pub fewer : length new < length old
  pub lines : text ++ fault_lines (faults_in old) ≡ added ++ fault_lines (faults_in new)

-- the line of the next record was added, where it has a fault; or nothing was left to read
abbrev pub AddsNext : Bool → List Reading → List Reading → List ℕ → List ℕ → Type 0
AddsNext true old new text added = IsOneOn old new text added
AddsNext false old new text added = (old ≡ []) × (added ≡ text)
