-- The lines of a text on which its records begin, with comments from `#`.
use Rattle.std.specs.Prelude.{ℕ, ◌+◌, ◌==◌, ◌&&◌, ◌||◌, not, if◌then◌else◌, Bool, true, false, List, [], ◌∷◌, Some}
use Rattle.csv.specs.Machine.{step, carriage_return, line_feed}
use Rattle.csv.specs.Reading.{default_config, strip_bom}
use Rattle.csv.specs.declared.parser.Config.{Config}
use Rattle.csv.specs.declared.parser.State.{State}
use Rattle.csv.specs.declared.parser.State.TheVariants as st
use Rattle.pf_text.specs.declared.rows.place.Place.{Place}
use Rattle.pf_text.specs.declared.rows.place.Place.TheVariants.{Between, BehindReturn, FieldStart, InField, InQuotes, BehindQuote, InComment}

-- commas, double quotes, comments from `#`
abbrev pub row_config : Config
row_config = record default_config { comment = Some 35 }

-- the state of csv's machine at a place
abbrev pub state_of : Place → State
state_of Between = st.StartRecord
state_of BehindReturn = st.AfterCr
state_of FieldStart = st.StartField
state_of InField = st.InField
state_of InQuotes = st.InQuoted
state_of BehindQuote = st.AfterQuote
state_of InComment = st.InComment

-- whether no record is under way
abbrev pub is_between : State → Bool
is_between st.StartRecord = true
is_between st.AfterCr = true
is_between st.InComment = true
is_between st.StartField = false
is_between st.InField = false
is_between st.InQuoted = false
is_between st.AfterQuote = false
is_between st.InEscape = false

-- whether a line ends with this byte, after this one: CR and LF each end one, and CR LF are one end
abbrev pub ends_line : ℕ → ℕ → Bool
ends_line before byte = (byte == carriage_return) || ((byte == line_feed) && not (before == carriage_return))

abbrev pub line_after : ℕ → ℕ → ℕ → ℕ
line_after line before byte = if ends_line before byte then line + 1 else line

-- whether a record begins with this byte
abbrev pub begins_record : State → ℕ → Bool
begins_record s byte = is_between s && not (is_between (step row_config s byte).0)

-- a line before those that follow, where a record begins
abbrev pub line_if : Bool → ℕ → List ℕ → List ℕ
line_if begins line lines = if begins then line ∷ lines else lines

-- the lines on which records begin in the rest of a text, whose first byte lies on `line` after the byte `before`, and
-- then the line of its end
unfoldable pub lines_from : State → ℕ → ℕ → List ℕ → List ℕ
lines_from s line before [] = line ∷ []
lines_from s line before (byte ∷ bytes) =
    line_if (begins_record s byte) line (lines_from (step row_config s byte).0 (line_after line before byte) byte bytes)

-- the lines on which a text's records begin, and then the line of its end; the first line is 1
abbrev pub record_lines : List ℕ → List ℕ
record_lines text = lines_from st.StartRecord 1 0 (strip_bom text)

-- the first of some lines, and those after it; after the line of the end it comes again
abbrev pub line_at : List ℕ → ℕ
line_at [] = 0
line_at (line ∷ lines) = line

abbrev pub lines_behind : List ℕ → List ℕ
lines_behind [] = []
lines_behind (line ∷ []) = line ∷ []
lines_behind (line ∷ next ∷ lines) = next ∷ lines
