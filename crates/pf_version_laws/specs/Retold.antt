-- What the script of version 2 tells that belongs to a plan.
use Rattle.std.specs.Prelude.{⊤, ℕ, ◌≡◌, ◌+◌, Option, None, Some, Result, Ok, Err, List, [], ◌∷◌, ◌++◌, length}
use Rattle.pf_text.specs.Rows.Rows.{Row, rows}
use Rattle.pf_script.specs.declared.record.LineTold.{LineTold}
use Rattle.pf_script.specs.declared.record.ScriptSettings.{ScriptSettings}
use Rattle.pf_script.specs.Told.{FaultTold, Told, told}
use Rattle.pf_text.specs.Page.{table_text}
use Rattle.pf_script.specs.declared.plan.fault.BadRecord.{BadRecord}
use Rattle.pf_script.specs.declared.plan.fault.RecordFault.{RecordFault}
use Rattle.pf_script.specs.declared.plan.said.Said.{Said}
use Rattle.pf_script.specs.declared.plan.said.Said.TheVariants.{Settings, Slot, Name, Asks}
use Rattle.pf_script.specs.Plan.Heading.{heading_fault}
use Rattle.pf_script.specs.Plan.Parsing.{said_at}
use Rattle.pf_plain_script.specs.declared.origin.Origin.{Origin}
use Rattle.pf_plain_script.specs.Plain.{Course, Plain, course_behind, plain, start}

-- what these records of a plan say, up to the first bad one
abbrev pub saids_next : (Course → List Said) → Course → Result Said RecordFault → List Said
saids_next more c (Ok said) = said ∷ more (course_behind c said)
saids_next more c (Err fault) = []

abbrev pub saids_from : Course → List Row → List Said
saids_from c [] = []
saids_from c (row ∷ rows) = saids_next (λ next. saids_from next rows) c (said_at c.progress row.fields)

-- after a heading, which may be the first bad one
abbrev pub saids_behind : Option RecordFault → List Row → List Said
saids_behind None rows = saids_from start rows
saids_behind (Some fault) rows = []

-- the heading is the first row
abbrev pub saids_of : List Row → List Said
saids_of [] = []
saids_of (heading ∷ rows) = saids_behind (heading_fault heading.fields) rows

-- the settings among them
abbrev pub settings_said : List Said → Option ScriptSettings
settings_said [] = None
settings_said (Settings s ∷ saids) = Some s
settings_said (Slot length ∷ saids) = settings_said saids
settings_said (Name task name ∷ saids) = settings_said saids
settings_said (Asks line label ∷ saids) = settings_said saids

-- what they ask for, from this number of a record of version 2 on: slots and names have none
abbrev pub lines_said : ℕ → List Said → List LineTold
lines_said number [] = []
lines_said number (Settings s ∷ saids) = lines_said (number + 1) saids
lines_said number (Slot length ∷ saids) = lines_said number saids
lines_said number (Name task name ∷ saids) = lines_said number saids
lines_said number (Asks line label ∷ saids) = record { number = number; asks = line } ∷ lines_said (number + 1) saids

-- the last of the records from this number on, which have these origins: it comes from the record of the number `source`, on this line
pub record IsLast (number : ℕ) (origins : List Origin) (last source line : ℕ) : Type 0 where
  pub before : List Origin
  pub column : ℕ
  pub whole : origins ≡ before ++ record { number = source; line = line; column = column } ∷ []
  pub count : last ≡ number + length before

-- a fault is told where a record of a plan is bad, and lies in the record of version 2 that stands for it, the last one
abbrev pub IsSameFault : ℕ → List Origin → Option BadRecord → Option FaultTold → Type 0
IsSameFault number origins None None = ⊤
IsSameFault number origins None (Some told) = ⊥
IsSameFault number origins (Some bad) None = ⊥
IsSameFault number origins (Some bad) (Some told) =
    IsLast number origins told.bad.number bad.number bad.line

-- the settings and the lines of what was said, and the same fault
pub record IsRetold (saids : List Said) (p : Plain) (t : Told) : Type 0 where
  pub opening : t.opening ≡ settings_said saids
  pub lines : t.rest.lines ≡ lines_said 2 saids
  pub fault : IsSameFault 1 p.origins p.bad t.rest.fault

-- the script of version 2 that belongs to a plan tells what that one says
abbrev pub ScriptsAreRetold : Type 0
ScriptsAreRetold = (bytes : List ℕ) (p : Plain) → plain bytes ≡ Some p → IsRetold (saids_of (rows bytes).rows) p (told (table_text p.records))
