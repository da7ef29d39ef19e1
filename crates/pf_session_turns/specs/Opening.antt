-- The session that begins with a script.
use Rattle.std.specs.Prelude.{ℕ, ⊤, ◌≡◌, ◌+◌, false, if◌then◌else◌, Option, None, Some, Result, Ok, Err, List, [], ◌∷◌, codes}
use Rattle.pf_answers.specs.declared.manner.Manner.{Manner}
use Rattle.pf_vocabulary.specs.declared.fault.fault.Fault.{Fault}
use Rattle.pf_vocabulary.specs.declared.fault.fault.Fault.TheVariants as why
use Rattle.pf_session_lines.specs.Lines.{line_of}
use Rattle.pf_text.specs.Rows.Rows.{Row, rows}
use Rattle.pf_script.specs.Fields.{is_word}
use Rattle.pf_script.specs.Told.{FaultTold, told}
use Rattle.pf_session.specs.Session.{SessionState, at_start, behind_record}
use Rattle.pf_script.specs.Plan.Heading.{heading_fault, is_plan_heading}
use Rattle.pf_script.specs.Plan.Parsing.{end_fault, said_at}
use Rattle.pf_script.specs.declared.plan.fault.RecordFault.{RecordFault}
use Rattle.pf_script.specs.declared.plan.said.Said.{Said}

-- a script that ends after a session lacks its settings, or lacks nothing; the record that it lacks would have this number
abbrev pub ended : SessionState → ℕ → Option RecordFault → Result SessionState ℕ
ended s number None = Ok s
ended s number (Some fault) = Err number

-- one more record, which says this
abbrev pub next : (SessionState → Result SessionState ℕ) → SessionState → ℕ → List (List ℕ) → Result Said RecordFault → Result SessionState ℕ
next more s number fields (Ok said) = more (behind_record s said (line_of fields))
next more s number fields (Err fault) = Err number

-- after these rows of a plan, of which the first has this number: each is taken without an answer, or is the first bad one
abbrev pub behind_rows : SessionState → ℕ → List Row → Result SessionState ℕ
behind_rows s number [] = ended s number (end_fault s.course.progress)
behind_rows s number (row ∷ rest) = next (λ t. behind_rows t (number + 1) rest) s number row.fields (said_at s.course.progress row.fields)

-- the rows after a heading, if there is one
abbrev pub behind_heading : List Row → List Row
behind_heading [] = []
behind_heading (row ∷ rest) = if is_word row.fields 0 (codes "pfair") then rest else row ∷ rest

-- a script of version 1 or 2 that has no fault stands after the heading of a plan
abbrev pub opened_plain : SessionState → List Row → Option FaultTold → Result SessionState ℕ
opened_plain s found None = behind_rows s 1 (behind_heading found)
opened_plain s found (Some fault) = Err fault.bad.number

-- the rows of a plan behind its heading, which may have a fault
abbrev pub opened_plan : SessionState → Option RecordFault → List Row → Result SessionState ℕ
opened_plan s None rest = behind_rows (record s { is_first = false }) 2 rest
opened_plan s (Some fault) rest = Err 1

abbrev pub opened_rows : SessionState → List ℕ → List Row → Result SessionState ℕ
opened_rows s bytes [] = opened_plain s [] (told bytes).rest.fault
opened_rows s bytes (row ∷ rest) =
    if is_plan_heading row.fields then opened_plan s (heading_fault row.fields) rest
    else opened_plain s (row ∷ rest) (told bytes).rest.fault

-- a session of this manner after a script of any version, or the number of its first bad record
abbrev pub opened : Manner → List ℕ → Result SessionState ℕ
opened manner bytes = opened_rows (at_start manner) bytes (rows bytes).rows

-- it was opened so, or stopped at that record; memory may be refused in place of both
abbrev pub IsOpened : Result SessionState ℕ → Result SessionState Fault → Type 0
IsOpened o (Ok s) = o ≡ Ok s
IsOpened o (Err (why.BadRecord number)) = o ≡ Err number
IsOpened o (Err why.NoMemory) = ⊤
IsOpened o (Err fault) = ⊥

-- these rows were taken so, or up to the first bad one
abbrev pub IsTaken : {A : Type 0} → Result SessionState ℕ → Result A Fault → SessionState → Type 0
IsTaken o (Ok done) s = o ≡ Ok s
IsTaken o (Err (why.BadRecord number)) s = o ≡ Err number
IsTaken o (Err why.NoMemory) s = ⊤
IsTaken o (Err fault) s = ⊥

-- a record of this number, with these fields, which says this, was taken, or is bad
abbrev pub IsTakenOne : {A : Type 0} → SessionState → ℕ → List (List ℕ) → Result Said RecordFault → Result A Fault → SessionState → Type 0
IsTakenOne s number fields said (Err why.NoMemory) t = ⊤
IsTakenOne s number fields (Ok said) (Ok done) t = t ≡ behind_record s said (line_of fields)
IsTakenOne s number fields (Err fault) (Ok done) t = ⊥
IsTakenOne s number fields (Ok said) (Err (why.BadRecord bad)) t = ⊥
IsTakenOne s number fields (Err fault) (Err (why.BadRecord bad)) t = bad ≡ number
IsTakenOne s number fields said (Err fault) t = ⊥
