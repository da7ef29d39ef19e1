-- Rows that are taken, one after another.
use Rattle.std.proofs.Common.{◌≡◌, ◌+◌, ◌∷◌, ℕ, Bool, true, false, List, [], Option, None, Some, codes, refl, ap, subst, sym, Result, Ok, Err}
use Rattle.std.specs.Prelude.{if◌then◌else◌}
use Rattle.pf_vocabulary.specs.declared.fault.fault.Fault.{Fault}
use Rattle.pf_vocabulary.specs.declared.fault.fault.Fault.TheVariants as why
use Rattle.pf_text.specs.Rows.Rows.{Row, Table}
use Rattle.pf_session.specs.Session.{SessionState}
use Rattle.pf_script.specs.Fields.{is_word}
use Rattle.pf_script.specs.Told.{FaultTold, told}
use Rattle.pf_script.specs.Plan.Heading.{heading_fault, is_plan_heading}
use Rattle.pf_script.specs.Plan.Parsing.{end_fault, said_at}
use Rattle.pf_script.specs.declared.plan.fault.RecordFault.{RecordFault}
use Rattle.pf_script.specs.declared.plan.said.Said.{Said}
use Rattle.pf_session_turns.specs.Opening.{IsOpened, IsTaken, IsTakenOne, behind_rows, ended, next, opened_plain, opened_plan, opened_rows}

-- Use: one was taken, ..
pub one_taken : {A : Type 0} (more : SessionState → Result SessionState ℕ) (s t : SessionState) (number : ℕ) (fields : List (List ℕ))
    (said : Result Said RecordFault) (done : A) → IsTakenOne s number fields said (Ok done) t → next more s number fields said ≡ more t
one_taken more s t number fields (Ok said) done h = sym (ap more h)
one_taken more s t number fields (Err fault) done h = absurd h

-- Use: and others are left, ..
pub row_taken : {A : Type 0} (s t : SessionState) (number : ℕ) (left behind : Table) (line : ℕ) (fields : List (List ℕ)) (done : A)
    → left ≡ record { rows = record { line = line; fields = fields } ∷ behind.rows; end = behind.end }
    → IsTakenOne s number fields (said_at s.course.progress fields) (Ok done) t → behind_rows t (number + 1) behind.rows ≡ behind_rows s number left.rows
row_taken s t number left behind line fields done is h =
    rw is (sym (one_taken (λ u. behind_rows u (number + 1) behind.rows) s t number fields (said_at s.course.progress fields) done h))

-- Use: or it was not
pub one_stopped : (A B : Type 0) (more : SessionState → Result SessionState ℕ) (s t : SessionState) (number : ℕ) (fields : List (List ℕ))
    (said : Result Said RecordFault) (fault : Fault) → IsTakenOne {A = A} s number fields said (Err fault) t
    → IsTaken {A = B} (next more s number fields said) (Err fault) t
one_stopped A B more s t number fields said why.NoMemory h = tt
one_stopped A B more s t number fields (Ok said) (why.BadRecord bad) h = absurd h
one_stopped A B more s t number fields (Err fault) (why.BadRecord bad) h = ap (λ n. Err n) (sym h)
one_stopped A B more s t number fields (Ok said) why.TooLong h = absurd h
one_stopped A B more s t number fields (Err fault) why.TooLong h = absurd h
one_stopped A B more s t number fields (Ok said) (why.BadRange range) h = absurd h
one_stopped A B more s t number fields (Err fault) (why.BadRange range) h = absurd h
one_stopped A B more s t number fields (Ok said) why.Read h = absurd h
one_stopped A B more s t number fields (Err fault) why.Read h = absurd h
one_stopped A B more s t number fields (Ok said) why.Write h = absurd h
one_stopped A B more s t number fields (Err fault) why.Write h = absurd h
one_stopped A B more s t number fields (Ok said) why.NoViewer h = absurd h
one_stopped A B more s t number fields (Ok said) why.Unread h = absurd h
one_stopped A B more s t number fields (Err fault) why.NoViewer h = absurd h
one_stopped A B more s t number fields (Err fault) why.Unread h = absurd h
one_stopped A B more s t number fields (Ok said) why.GateShut h = absurd h
one_stopped A B more s t number fields (Err fault) why.GateShut h = absurd h

-- Use: none is left.
pub none_left : (A : Type 0) (s : SessionState) (number : ℕ) (left : Table) (line : ℕ) (r : Result A Fault) (all : Result SessionState ℕ)
    → left ≡ record { rows = []; end = line } → IsTaken {A = A} (ended s number (end_fault s.course.progress)) r s → behind_rows s number left.rows ≡ all
    → IsTaken {A = A} all r s
none_left A s number left line r all is h same =
    let here : IsTaken {A = A} (behind_rows s number left.rows) r s = rw is h in
    subst (λ (o : Result SessionState ℕ). IsTaken {A = A} o r s) same here

-- Use: a session that was not taken to its end is not opened.
pub taken_opened : (A : Type 0) (o : Result SessionState ℕ) (s : SessionState) (fault : Fault) → IsTaken {A = A} o (Err fault) s → IsOpened o (Err fault)
taken_opened A o s (why.BadRecord number) h = h
taken_opened A o s why.NoMemory h = tt
taken_opened A o s why.TooLong h = absurd h
taken_opened A o s (why.BadRange range) h = absurd h
taken_opened A o s why.Read h = absurd h
taken_opened A o s why.Write h = absurd h
taken_opened A o s why.NoViewer h = absurd h
taken_opened A o s why.Unread h = absurd h
taken_opened A o s why.GateShut h = absurd h

-- the line of the first row is told nowhere
line_apart : (s : SessionState) (row : Row) (line : ℕ) (rest : List Row) (found : Option FaultTold)
    → opened_plain s (record { line = line; fields = row.fields } ∷ rest) found ≡ opened_plain s (row ∷ rest) found
line_apart s row line rest None = by (is_word row.fields 0 (codes "pfair"))
  where
    by : (b : Bool) → behind_rows s 1 (if b then rest else record { line = line; fields = row.fields } ∷ rest) ≡ behind_rows s 1 (if b then rest else row ∷ rest)
    by true = refl
    by false = refl
line_apart s row line rest (Some fault) = refl

-- Use: it may be left out.
pub rows_apart : (s : SessionState) (bytes : List ℕ) (row : Row) (line : ℕ) (rest : List Row)
    → opened_rows s bytes (record { line = line; fields = row.fields } ∷ rest) ≡ opened_rows s bytes (row ∷ rest)
rows_apart s bytes row line rest =
    ap (λ o. if is_plan_heading row.fields then opened_plan s (heading_fault row.fields) rest else o) (line_apart s row line rest (told bytes).rest.fault)
