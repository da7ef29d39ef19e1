-- The laws of a check: a fault is what keeps a record from being read, and the first one lies where the reading of a script
-- ends.
use Rattle.std.specs.Prelude.{ℕ, ◌≡◌, ◌↔◌, ◌+◌, Bool, false, ◌&&◌, ◌||◌, nat_le, is_some, if◌then◌else◌, Option, Some, None, List, [], ◌∷◌}
use Rattle.std.specs.Option.{option_map_or}
use Rattle.std.specs.Result.{is_ok}
use Rattle.pf_weight.specs.declared.base.TheConstants.{LARGEST_BASE}
use Rattle.pf_scenario.specs.declared.settings.TheConstants.{MOST_PROCESSORS, LARGEST_CAP}
use Rattle.pf_scenario.specs.declared.limits.TheConstants.{LARGEST_DISTANCE}
use Rattle.pf_script.specs.declared.line.Opening.{Opening}
use Rattle.pf_script.specs.declared.version.Version.{Version}
use Rattle.pf_script.specs.declared.version.Version.TheVariants.{First, Second}
use Rattle.pf_script.specs.Grammar.{is_heading, opening_of, line_of}
use Rattle.pf_script.specs.Script.{script_records}
use Rattle.pf_script.specs.declared.stage.Stage.{Stage}
use Rattle.pf_script.specs.declared.stage.Stage.TheVariants.{Beginning, Headed, Opened}
use Rattle.pf_script.specs.Parsing.{record_at}
use Rattle.pf_script.specs.Told.{FaultTold, faults}

-- n is 1 to most
abbrev pub is_one_to : ℕ → ℕ → Bool
is_one_to most n = nat_le 1 n && nat_le n most

-- whether the numbers of settings are within their limits
abbrev pub is_in_limits : Opening → Bool
is_in_limits o =
    is_one_to MOST_PROCESSORS o.processors && is_one_to LARGEST_BASE o.base && is_one_to LARGEST_CAP o.cap
    && is_one_to LARGEST_DISTANCE o.every

-- whether a record is settings with which a script may be carried out
abbrev pub is_settings : List (List ℕ) → Bool
is_settings fields = option_map_or is_in_limits (opening_of fields) false

-- whether a record is read at a stage of a script
abbrev pub is_read : Stage → List (List ℕ) → Bool
is_read Beginning fields = is_heading fields || is_settings fields
is_read Headed fields = is_settings fields
is_read (Opened version) fields = is_some (line_of version fields)

-- of the records after the settings, the first of them of this number: the number of the first bad one
abbrev pub bad_line : Version → ℕ → List (List (List ℕ)) → Option ℕ
bad_line version number [] = None
bad_line version number (fields ∷ records) =
    if is_some (line_of version fields) then bad_line version (number + 1) records else Some number

-- the same of the records from the settings on; a script without settings lacks a record
abbrev pub bad_opening : Version → ℕ → List (List (List ℕ)) → Option ℕ
bad_opening version number [] = Some number
bad_opening version number (fields ∷ records) =
    if is_settings fields then bad_line version (number + 1) records else Some number

-- the same of all records of a script; one of version 2 begins with its heading
abbrev pub bad_among : List (List (List ℕ)) → Option ℕ
bad_among [] = Some 1
bad_among (fields ∷ records) =
    if is_heading fields then bad_opening Second 2 records else bad_opening First 1 (fields ∷ records)

-- the number of the record at which the reading of a script ends; none where all of it is read
abbrev pub bad_record : List ℕ → Option ℕ
bad_record script = bad_among (script_records script)

-- the number of the record of the first fault
abbrev pub first_number : List FaultTold → Option ℕ
first_number [] = None
first_number (fault ∷ others) = Some fault.bad.number

-- at each stage a record has no fault exactly where it is read
abbrev pub ReadRecordsHaveNoFault : Type 0
ReadRecordsHaveNoFault = (stage : Stage) (fields : List (List ℕ)) → is_ok (record_at stage fields) ≡ is_read stage fields

-- the first fault of a script lies in the record at which its reading ends
abbrev pub FirstFaultEndsReading : Type 0
FirstFaultEndsReading = (script : List ℕ) → first_number (faults script) ≡ bad_record script

-- a script has no fault exactly where all of it is read
abbrev pub ReadScriptsHaveNoFault : Type 0
ReadScriptsHaveNoFault = (script : List ℕ) → (faults script ≡ []) ↔ (bad_record script ≡ None)
