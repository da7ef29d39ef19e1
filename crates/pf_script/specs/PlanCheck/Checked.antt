-- The faults of a plan. Nothing is carried out: a label stands for no number.
use Rattle.std.specs.Prelude.{ℕ, ◌+◌, ◌&&◌, Bool, if◌then◌else◌, is_some, not, Option, None, Some, Result, Ok, Err, List, [], ◌∷◌}
use Rattle.pf_text.specs.Rows.Rows.{Row, Table, rows}
use Rattle.pf_script.specs.declared.plan.fault.BadRecord.{BadRecord}
use Rattle.pf_script.specs.declared.plan.fault.RecordFault.{RecordFault}
use Rattle.pf_script.specs.declared.plan.said.Said.{Said}
use Rattle.pf_script.specs.declared.plan.state.Progress.{Progress}
use Rattle.pf_script.specs.Plan.Heading.{heading_fault, is_plan_heading}
use Rattle.pf_script.specs.Plan.Parsing.{end_fault, said_at}
use Rattle.pf_script.specs.Plan.Progress.{at_heading, progress_after}
use Rattle.pf_script.specs.PlanCheck.Reports.{FaultShown, shown}

-- a fault of the record of this number
abbrev pub fault_shown : Progress → ℕ → Row → RecordFault → FaultShown
fault_shown p number row fault = shown p (record { number = number; line = row.line; fault = fault }) row.fields

-- a record with a fault is as though it had not been there
abbrev pub faults_next : (Progress → List FaultShown) → Progress → ℕ → Row → Result Said RecordFault → List FaultShown
faults_next more p number row (Ok said) = more (progress_after p said 0)
faults_next more p number row (Err fault) = fault_shown p number row fault ∷ more p

-- a script that ends before its settings lacks them
abbrev pub faults_at_end : Progress → ℕ → ℕ → Option RecordFault → List FaultShown
faults_at_end p number end None = []
faults_at_end p number end (Some fault) = fault_shown p number (record { line = end; fields = [] }) fault ∷ []

-- from the record of this number on, which is the first of these rows, of a text that ends on this line
abbrev pub faults_from : Progress → ℕ → ℕ → List Row → List FaultShown
faults_from p number end [] = faults_at_end p number end (end_fault p)
faults_from p number end (row ∷ rows) = faults_next (λ q. faults_from q (number + 1) end rows) p number row (said_at p row.fields)

-- a bad record of this number and line, where there is a fault
abbrev pub bad_if : ℕ → ℕ → Option RecordFault → Option BadRecord
bad_if number line None = None
bad_if number line (Some fault) = Some (record { number = number; line = line; fault = fault })

-- a fault of a record with these fields, where there is one, and others
abbrev pub with_fault : Progress → Option BadRecord → List (List ℕ) → List FaultShown → List FaultShown
with_fault p None fields faults = faults
with_fault p (Some bad) fields faults = shown p bad fields ∷ faults

-- a heading without a fault
abbrev pub is_right_heading : List (List ℕ) → Bool
is_right_heading fields = is_plan_heading fields && not (is_some (heading_fault fields))

-- the rows after a heading: after one with a fault a right one is passed over too, as it stands for the other
abbrev pub rows_after : Option RecordFault → List Row → List Row
rows_after None rows = rows
rows_after (Some fault) [] = []
rows_after (Some fault) (row ∷ rows) = if is_right_heading row.fields then rows else row ∷ rows

-- the number of the first of them
abbrev pub number_after : Option RecordFault → List Row → ℕ
number_after None rows = 2
number_after (Some fault) [] = 2
number_after (Some fault) (row ∷ rows) = if is_right_heading row.fields then 3 else 2

-- the heading, which is the first row, and then the others
abbrev pub faults_of : ℕ → List Row → List FaultShown
faults_of end [] = []
faults_of end (heading ∷ rows) =
    with_fault at_heading (bad_if 1 heading.line (heading_fault heading.fields)) heading.fields
    (faults_from at_heading (number_after (heading_fault heading.fields) rows) end (rows_after (heading_fault heading.fields) rows))

abbrev pub faults : Table → List FaultShown
faults t = faults_of t.end t.rows

-- the fields of the first row, none where there is no row
abbrev pub first_fields : List Row → List (List ℕ)
first_fields [] = []
first_fields (row ∷ rows) = row.fields

-- those of a script
abbrev pub heading_of : List ℕ → List (List ℕ)
heading_of script = first_fields (rows script).rows

-- the rows after the second row, where that is a right heading after one with a fault
abbrev pub after_second : Option BadRecord → ℕ → List Row → Option Table
after_second (Some bad) end (heading ∷ row ∷ rows) =
    if is_right_heading row.fields then Some (record { rows = rows; end = end }) else None
after_second bad end rows = None

-- whether these are the rows of a plan
abbrev pub is_plan : Table → Bool
is_plan t = is_plan_heading (first_fields t.rows)
