-- Whether a list ends within quotes.
use Rattle.std.specs.Prelude.{ℕ, Bool, true, false, if◌then◌else◌, Option, None, Some, List, [], ◌∷◌}
use Rattle.csv.specs.Machine.{step}
use Rattle.csv.specs.Reading.{strip_bom}
use Rattle.csv.specs.declared.parser.State.{State}
use Rattle.csv.specs.declared.parser.State.TheVariants as st
use Rattle.pf_text.specs.Rows.Places.{begins_record, line_after, row_config}
use Rattle.pf_convert.specs.declared.list.reading_state.ReadingState.{ReadingState}
use Rattle.pf_convert.specs.declared.list.reading_state.ReadingState.TheVariants.{Between, AfterReturn, FieldStart, InField, InQuotes, AfterQuote, InComment}

-- the state of csv's machine at a place of a record
abbrev pub state_of : ReadingState → State
state_of Between = st.StartRecord
state_of AfterReturn = st.AfterCr
state_of FieldStart = st.StartField
state_of InField = st.InField
state_of InQuotes = st.InQuoted
state_of AfterQuote = st.AfterQuote
state_of InComment = st.InComment

abbrev pub is_quoted : State → Bool
is_quoted st.InQuoted = true
is_quoted st.StartRecord = false
is_quoted st.AfterCr = false
is_quoted st.InComment = false
is_quoted st.StartField = false
is_quoted st.InField = false
is_quoted st.AfterQuote = false
is_quoted st.InEscape = false

-- where a reader of a list is: the state of csv's machine, the line of the next byte, the byte before it, and the line on which the
-- last record begins
pub record Reading : Type 0 where
  pub state : State
  pub line : ℕ
  pub before : ℕ
  pub begun : ℕ

abbrev pub reading_after : Reading → ℕ → Reading
reading_after r byte = record {
  state = (step row_config r.state byte).0;
  line = line_after r.line r.before byte;
  before = byte;
  begun = if begins_record r.state byte then r.line else r.begun;
}

unfoldable pub reading_from : Reading → List ℕ → Reading
reading_from r [] = r
reading_from r (byte ∷ bytes) = reading_from (reading_after r byte) bytes

abbrev pub first_reading : Reading
first_reading = record { state = st.StartRecord; line = 1; before = 0; begun = 0 }

abbrev pub line_if_quoted : Reading → Option ℕ
line_if_quoted r = if is_quoted r.state then Some r.begun else None

-- the line of the record within whose quotes a list ends, if it does
abbrev pub open_line : List ℕ → Option ℕ
open_line text = line_if_quoted (reading_from first_reading (strip_bom text))
