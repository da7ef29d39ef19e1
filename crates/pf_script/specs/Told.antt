-- What a script tells: its records are read one after another, each by what came before it.
use Rattle.std.specs.Prelude.{ℕ, ◌+◌, Option, None, Some, Result, Ok, Err, List, [], ◌∷◌}
use Rattle.pf_script.specs.declared.fault.BadRecord.{BadRecord}
use Rattle.pf_script.specs.declared.fault.RecordFault.{RecordFault}
use Rattle.pf_script.specs.declared.fault.Reason.TheVariants.{NoSettings}
use Rattle.pf_script.specs.declared.record.LineTold.{LineTold}
use Rattle.pf_script.specs.declared.record.Record.{Record}
use Rattle.pf_script.specs.declared.record.Record.TheVariants.{Heading, Settings, Asks}
use Rattle.pf_script.specs.declared.record.RecordTold.{RecordTold}
use Rattle.pf_script.specs.declared.record.ScriptSettings.{ScriptSettings}
use Rattle.pf_script.specs.declared.stage.Stage.{Stage}
use Rattle.pf_script.specs.declared.stage.Stage.TheVariants.{Beginning, Headed, Opened}
use Rattle.pf_script.specs.declared.version.Version.{Version}
use Rattle.pf_script.specs.Parsing.{fault_at, record_at}
use Rattle.pf_script.specs.Places.{record_lines, line_at, lines_behind}
use Rattle.pf_script.specs.Script.{script_records}

-- the stage after a record
abbrev pub stage_behind : Stage → Record → Stage
stage_behind stage Heading = Headed
stage_behind stage (Settings s) = Opened s.version
stage_behind stage (Asks line) = stage

-- a record with a fault is as though it had not been there
abbrev pub stage_after : Stage → Result Record RecordFault → Stage
stage_after stage (Ok said) = stage_behind stage said
stage_after stage (Err fault) = stage

-- the fault of a script that ends before its settings
abbrev pub end_fault : Stage → Option RecordFault
end_fault Beginning = Some (fault_at 0 NoSettings)
end_fault Headed = Some (fault_at 0 NoSettings)
end_fault (Opened version) = None

-- a bad record, with its fields
pub record FaultTold : Type 0 where
  pub bad : BadRecord
  pub fields : List (List ℕ)

abbrev pub fault_told : ℕ → ℕ → List (List ℕ) → RecordFault → FaultTold
fault_told number line fields fault = record {
  bad = record { number = number; line = line; fault = fault };
  fields = fields;
}

-- what a record is read as, on its line where it has a fault; at its end a script without settings lacks one
pub data Reading : Type 0 where
  Good : RecordTold → Reading
  Bad : FaultTold → Reading
  Missing : FaultTold → Reading

abbrev pub reading : ℕ → ℕ → List (List ℕ) → Result Record RecordFault → Reading
reading number line fields (Ok said) = Good (record { number = number; says = said })
reading number line fields (Err fault) = Bad (fault_told number line fields fault)

abbrev pub end_reading : ℕ → ℕ → Option RecordFault → List Reading
end_reading number line None = []
end_reading number line (Some fault) = Missing (fault_told number line [] fault) ∷ []

-- the records from this number on, which begin on these lines, where a script has come to this stage
unfoldable pub readings_from : Stage → ℕ → List ℕ → List (List (List ℕ)) → List Reading
readings_from stage number lines [] = end_reading number (line_at lines) (end_fault stage)
readings_from stage number lines (fields ∷ records) =
    reading number (line_at lines) fields (record_at stage fields)
    ∷ readings_from (stage_after stage (record_at stage fields)) (number + 1) (lines_behind lines) records

-- all records of a script of these bytes
abbrev pub readings : List ℕ → List Reading
readings bytes = readings_from Beginning 1 (record_lines bytes) (script_records bytes)

-- the same of a text with which a script of this version goes on after its settings
abbrev pub readings_after : Version → List ℕ → List Reading
readings_after version bytes = readings_from (Opened version) 1 (record_lines bytes) (script_records bytes)

-- the faults of a reading that goes on after each of them
abbrev pub faults_in : List Reading → List FaultTold
faults_in [] = []
faults_in (Good told ∷ rest) = faults_in rest
faults_in (Bad fault ∷ rest) = fault ∷ faults_in rest
faults_in (Missing fault ∷ rest) = fault ∷ faults_in rest

abbrev pub faults : List ℕ → List FaultTold
faults bytes = faults_in (readings bytes)

-- up to the first fault: the settings, ..
abbrev pub settings_or : Record → Option ScriptSettings → Option ScriptSettings
settings_or Heading rest = rest
settings_or (Settings s) rest = Some s
settings_or (Asks line) rest = rest

abbrev pub settings_in : List Reading → Option ScriptSettings
settings_in [] = None
settings_in (Good told ∷ rest) = settings_or told.says (settings_in rest)
settings_in (Bad fault ∷ rest) = None
settings_in (Missing fault ∷ rest) = None

-- .. the lines after them, ..
abbrev pub with_line : RecordTold → Record → List LineTold → List LineTold
with_line told Heading rest = rest
with_line told (Settings s) rest = rest
with_line told (Asks asked) rest = record { number = told.number; asks = asked } ∷ rest

abbrev pub lines_in : List Reading → List LineTold
lines_in [] = []
lines_in (Good told ∷ rest) = with_line told told.says (lines_in rest)
lines_in (Bad fault ∷ rest) = []
lines_in (Missing fault ∷ rest) = []

-- .. and the fault
abbrev pub first_of : List FaultTold → Option FaultTold
first_of [] = None
first_of (fault ∷ faults) = Some fault

-- the lines after the settings, and the fault that ends them, if one does
pub record LinesTold : Type 0 where
  pub lines : List LineTold
  pub fault : Option FaultTold

abbrev pub rest_in : List Reading → LinesTold
rest_in rs = record { lines = lines_in rs; fault = first_of (faults_in rs) }

-- what a script tells: its settings, what it then asks for, and its first fault, which ends it
pub record Told : Type 0 where
  pub opening : Option ScriptSettings
  pub rest : LinesTold

abbrev pub told_in : List Reading → Told
told_in rs = record { opening = settings_in rs; rest = rest_in rs }

abbrev pub told : List ℕ → Told
told bytes = told_in (readings bytes)

-- how many records these are
abbrev pub records_in : List Reading → ℕ
records_in [] = 0
records_in (Good told ∷ rest) = 1 + records_in rest
records_in (Bad fault ∷ rest) = 1 + records_in rest
records_in (Missing fault ∷ rest) = records_in rest
