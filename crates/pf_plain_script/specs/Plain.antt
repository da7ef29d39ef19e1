-- The script of version 2 that belongs to a plan.
use Rattle.std.specs.Prelude.{ℕ, ◌+◌, ◌-◌, ◌≡◌, true, if◌then◌else◌, map, Option, None, Some, Result, Ok, Err, List, [], ◌∷◌, ◌++◌}
use Rattle.pf_desk.specs.Machine.{State, opening_state}
use Rattle.pf_message.specs.Positions.{field_position}
use Rattle.pf_vocabulary.specs.declared.names.titles.Titles.{Titles}
use Rattle.pf_text.specs.Rows.Rows.{Row, rows}
use Rattle.pf_script.specs.declared.line.Line.{Line}
use Rattle.pf_text.specs.Page.{table_text}
use Rattle.pf_script.specs.declared.plan.fault.BadRecord.{BadRecord}
use Rattle.pf_script.specs.declared.plan.fault.RecordFault.{RecordFault}
use Rattle.pf_script.specs.declared.plan.said.Said.{Said}
use Rattle.pf_script.specs.declared.plan.said.Said.TheVariants.{Settings, Slot, Name, Asks}
use Rattle.pf_script.specs.declared.plan.state.Progress.{Progress}
use Rattle.pf_script.specs.Plan.Heading.{heading_fault, is_plan_heading}
use Rattle.pf_script.specs.Plan.Parsing.{end_fault, said_at}
use Rattle.pf_script.specs.Plan.Progress.{at_heading, progress_after}
use Rattle.pf_plain_script.specs.declared.origin.Origin.{Origin}
use Rattle.pf_plain_script.specs.declared.plain.PlainScript.{PlainScript}
use Rattle.pf_plain_script.specs.Carried.{number_given, state_behind_line}
use Rattle.pf_plain_script.specs.Written.{bad_fields, heading_fields, said_records}

-- how far a script is: what came before, and the desk's state after the settings
pub record Course : Type 0 where
  pub progress : Progress
  pub desk : Option State

abbrev pub start : Course
start = record { progress = at_heading; desk = None }

-- after what a record said; a labelled event is given its number by the desk
abbrev pub given : Option State → Line → ℕ
given None line = 0
given (Some st) line = number_given st line

abbrev pub desk_behind : Option State → Line → Option State
desk_behind None line = None
desk_behind (Some st) line = Some (state_behind_line st line)

abbrev pub course_behind : Course → Said → Course
course_behind c (Settings s) =
    record { progress = progress_after c.progress (Settings s) 0; desk = Some (opening_state s.settings) }
course_behind c (Slot length) = record c { progress = progress_after c.progress (Slot length) 0 }
course_behind c (Name task name) = record c { progress = progress_after c.progress (Name task name) 0 }
course_behind c (Asks line label) = record {
  progress = progress_after c.progress (Asks line label) (given c.desk line);
  desk = desk_behind c.desk line;
}

-- what belongs to a script: records, each with the record that it comes from; names and the length of a slot; the first bad
-- record, which ends it; and the number of the last record
pub record Plain : Type 0 where
  pub records : List (List (List ℕ))
  pub origins : List Origin
  pub titles : Titles
  pub bad : Option BadRecord
  pub last : ℕ

abbrev pub titles_of : Progress → Titles
titles_of p = record { is_plan = true; names = p.names; slot = p.slot }

-- a bad record stands for one that no script has
abbrev pub ended : Progress → Origin → Option RecordFault → Plain
ended p origin None = record { records = []; origins = []; titles = titles_of p; bad = None; last = origin.number - 1 }
ended p origin (Some fault) = record {
  records = bad_fields ∷ [];
  origins = origin ∷ [];
  titles = titles_of p;
  bad = Some (record { number = origin.number; line = origin.line; fault = fault });
  last = origin.number;
}

-- the records of what was said here, before others
abbrev pub with_said : Origin → Said → Plain → Plain
with_said origin said p = record p {
  records = said_records said ++ p.records;
  origins = map (λ fields. origin) (said_records said) ++ p.origins;
}

abbrev pub plain_next : (Course → Plain) → Course → Origin → Result Said RecordFault → Plain
plain_next more c origin (Ok said) = with_said origin said (more (course_behind c said))
plain_next more c origin (Err fault) = ended c.progress origin (Some fault)

-- a record of this number that begins on this line, where each line's first byte that is no blank stands in this column
abbrev pub origin_at : (ℕ → ℕ) → ℕ → ℕ → Origin
origin_at column number line = record { number = number; line = line; column = column line }

-- from the record of this number on, which is the first of these rows, of a text that ends on this line
abbrev pub plain_from : (ℕ → ℕ) → Course → ℕ → ℕ → List Row → Plain
plain_from column c number end [] = ended c.progress (origin_at column number end) (end_fault c.progress)
plain_from column c number end (row ∷ rows) =
    plain_next (λ next. plain_from column next (number + 1) end rows) c (origin_at column number row.line) (said_at c.progress row.fields)

-- after the heading
abbrev pub with_heading : (ℕ → ℕ) → ℕ → Plain → Plain
with_heading column line p = record p { records = heading_fields ∷ p.records; origins = origin_at column 1 line ∷ p.origins }

-- behind a heading on this line, which may have a fault: then it is the first bad record, and no other is read
abbrev pub plain_behind : (ℕ → ℕ) → Option RecordFault → ℕ → ℕ → List Row → Plain
plain_behind column None line end rows = plain_from column start 2 end rows
plain_behind column (Some fault) line end rows = ended start.progress (origin_at column 1 line) (Some fault)

-- a text whose first row is no heading of a plan is no plan
abbrev pub plain_of : (ℕ → ℕ) → ℕ → List Row → Option Plain
plain_of column end [] = None
plain_of column end (row ∷ rows) =
    if is_plan_heading row.fields then Some (with_heading column row.line (plain_behind column (heading_fault row.fields) row.line end rows)) else None

-- the column of the first byte of a line that is no blank
abbrev pub first_column : List ℕ → ℕ → ℕ
first_column bytes line = (field_position bytes (record { line = line; number = 1; trims = true })).column

abbrev pub plain : List ℕ → Option Plain
plain bytes = plain_of (first_column bytes) (rows bytes).end (rows bytes).rows

-- a script of version 2 with these records
pub record IsPlain (s : PlainScript) (p : Plain) : Type 0 where
  pub text : s.text.items ≡ table_text p.records
  pub origins : s.origins.items ≡ p.origins
  pub titles : s.titles ≡ p.titles
  pub bad : s.bad ≡ p.bad
  pub last : s.last ≡ p.last

abbrev pub MakesPlain : Option PlainScript → Option Plain → Type 0
MakesPlain None None = Unit {0}
MakesPlain None (Some p) = ⊥
MakesPlain (Some s) None = ⊥
MakesPlain (Some s) (Some p) = IsPlain s p
