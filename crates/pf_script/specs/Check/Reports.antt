-- The text of a check.
use Rattle.std.specs.Prelude.{ℕ, ◌-◌, ◌==◌, if◌then◌else◌, List, [], ◌++◌, codes}
use Rattle.std.specs.Fmt.{decimal}
use Rattle.pf_text.specs.Quoted.{quoted}
use Rattle.pf_script.specs.declared.version.Version.{Version}
use Rattle.pf_script.specs.declared.version.Version.TheVariants.{First, Second}
use Rattle.pf_script.specs.Fields.{field}
use Rattle.pf_script.specs.declared.fault.BadRecord.{BadRecord}
use Rattle.pf_script.specs.declared.fault.Reason.{Reason}
use Rattle.pf_script.specs.declared.fault.Reason.TheVariants.{NoRecord, NoChange, NoEvent, NoSettings, LateSettings, NoVersion, NoNumber, Outside, Fields, StepFields}
use Rattle.pf_script.specs.Told.{FaultTold, faults}

-- the events of a version
abbrev pub event_words : Version → List ℕ
event_words First = codes "join, leave, delay"
event_words Second = codes "join, leave, delay, limit"

abbrev pub change_words : Version → List ℕ
change_words version = event_words version ++ codes ", alter, strike"

-- a number that is not within its limits
abbrev pub outside_text : ℕ → ℕ → List ℕ
outside_text number most = decimal number ++ codes " is not within 1 to " ++ decimal most

-- a record that has another number of fields than this
abbrev pub count_text : ℕ → List ℕ
count_text count = decimal count ++ codes " fields are expected"

-- why a record is none, of its field that is at fault
unfoldable pub reason_text : List ℕ → Reason → List ℕ
reason_text at (NoRecord version) = quoted at ++ codes " is no record: settings, " ++ change_words version ++ codes ", strict, step"
reason_text at (NoChange version) = quoted at ++ codes " is no change: " ++ change_words version
reason_text at (NoEvent version) = quoted at ++ codes " is no event: " ++ event_words version
reason_text at NoSettings = codes "settings are expected"
reason_text at LateSettings = codes "settings come once, before all changes and steps"
reason_text at NoVersion = quoted at ++ codes " is no version: 2"
reason_text at NoNumber = quoted at ++ codes " is no number of 1 to 15 digits"
reason_text at (Outside number most) = outside_text number most
reason_text at (Fields count) = count_text count
reason_text at StepFields = codes "1 or 2 fields are expected"

-- the first field names the record, and is not counted out
abbrev pub field_text : ℕ → List ℕ
field_text number = if number == 1 then [] else codes ", field " ++ decimal number

-- a bad record, with its fields
abbrev pub fault_shown : BadRecord → List (List ℕ) → FaultTold
fault_shown bad fields = record { bad = bad; fields = fields }

-- the line and the number of a record
abbrev pub place_text : ℕ → ℕ → List ℕ
place_text line number = codes "line " ++ decimal line ++ codes ", record " ++ decimal number

-- where it is, and why
unfoldable pub report_line : BadRecord → List ℕ → List ℕ
report_line bad at =
    codes "line " ++ decimal bad.line ++ codes ", record " ++ decimal bad.number ++ field_text bad.fault.field
    ++ codes ": " ++ reason_text at bad.fault.reason ++ codes "\n"

abbrev pub report_text : FaultTold → List ℕ
report_text f = report_line f.bad (field f.fields (f.bad.fault.field - 1))

-- how many records and how many faults there are
abbrev pub totals_text : ℕ → ℕ → List ℕ
totals_text records faults = decimal records ++ codes " records, " ++ decimal faults ++ codes " faults\n"
