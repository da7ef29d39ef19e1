-- The lines and columns of a text, and where in it a field of a record begins.
use Rattle.std.specs.Prelude.{ℕ, ◌+◌, ◌-◌, ◌==◌, ◌&&◌, ◌||◌, Bool, true, false, nat_lt, if◌then◌else◌, Option, None, Some, is_none, unwrap_or, List, [], ◌∷◌}
use Rattle.csv.specs.Machine.{step, carriage_return, line_feed}
use Rattle.csv.specs.Reading.{strip_bom}
use Rattle.csv.specs.declared.parser.State.{State}
use Rattle.csv.specs.declared.parser.State.TheVariants as st
use Rattle.pf_text.specs.Rows.Places.{ends_line, row_config}
use Rattle.pf_message.specs.declared.field_part.FieldPart.{FieldPart}
use Rattle.pf_message.specs.declared.field_part.FieldPart.TheVariants.{Start, Plain, Quoted, Closed}
use Rattle.pf_message.specs.declared.position.Position.{Position}

-- a field, by its number from 1, of the record that begins on a line; whether blanks before it do not count
pub record Field : Type 0 where
  pub line : ℕ
  pub number : ℕ
  pub trims : Bool

-- whether a byte is none of its line: the line feed of CR LF
abbrev pub is_line_rest : ℕ → ℕ → Bool
is_line_rest before byte = (before == carriage_return) && (byte == line_feed)

-- the position after a byte, which stands after another one: CR, LF and CR LF each end a line
abbrev pub position_after : Position → ℕ → ℕ → Position
position_after p before byte =
    if ends_line before byte then record { line = p.line + 1; column = 1 }
    else if is_line_rest before byte then p
    else record { line = p.line; column = p.column + 1 }

-- a blank: a space or a tab
abbrev pub is_blank_byte : ℕ → Bool
is_blank_byte byte = (byte == 32) || (byte == 9)

-- the part of a field that a state of csv's machine is in; none where the record has ended
abbrev pub part_of : State → Option FieldPart
part_of st.StartField = Some Start
part_of st.InField = Some Plain
part_of st.InQuoted = Some Quoted
part_of st.AfterQuote = Some Closed
part_of st.StartRecord = None
part_of st.AfterCr = None
part_of st.InComment = None
part_of st.InEscape = None

abbrev pub state_of : FieldPart → State
state_of Start = st.StartField
state_of Plain = st.InField
state_of Quoted = st.InQuoted
state_of Closed = st.AfterQuote

abbrev pub part_after : FieldPart → ℕ → Option FieldPart
part_after part byte = part_of (step row_config (state_of part) byte).0

-- so many commas less the one before a field that begins
abbrev pub commas_left : ℕ → FieldPart → ℕ
commas_left commas Start = commas - 1
commas_left commas Plain = commas
commas_left commas Quoted = commas
commas_left commas Closed = commas

-- where a reader of a text is: its position, the byte before, and what is left
pub record Reading : Type 0 where
  pub position : Position
  pub before : ℕ
  pub left : List ℕ

-- the first byte of a line
unfoldable pub line_from : ℕ → Position → ℕ → List ℕ → Reading
line_from line p before [] = record { position = p; before = before; left = [] }
line_from line p before (byte ∷ bytes) =
    if nat_lt p.line line || is_line_rest before byte then line_from line (position_after p before byte) byte bytes
    else record { position = p; before = before; left = byte ∷ bytes }

-- the byte after so many commas between fields, or else the end of the record
unfoldable pub field_from : ℕ → FieldPart → Position → ℕ → List ℕ → Reading
field_from commas part p before [] = record { position = p; before = before; left = [] }
field_from commas part p before (byte ∷ bytes) =
    if commas == 0 || is_none (part_after part byte) then record { position = p; before = before; left = byte ∷ bytes }
    else field_from (commas_left commas (unwrap_or (part_after part byte) Start)) (unwrap_or (part_after part byte) Start) (position_after p before byte) byte bytes

-- the first byte that is no blank
unfoldable pub shown_from : Position → ℕ → List ℕ → Reading
shown_from p before [] = record { position = p; before = before; left = [] }
shown_from p before (byte ∷ bytes) =
    if is_blank_byte byte then shown_from (position_after p before byte) byte bytes
    else record { position = p; before = before; left = byte ∷ bytes }

abbrev pub line_start : ℕ → Reading → Reading
line_start line r = line_from line r.position r.before r.left

abbrev pub field_start : ℕ → Reading → Reading
field_start commas r = field_from commas Start r.position r.before r.left

abbrev pub shown_start : Bool → Reading → Reading
shown_start trims r = if trims then shown_from r.position r.before r.left else r

-- bytes from the first of them on
abbrev pub reading_of : List ℕ → Reading
reading_of bytes = record { position = record { line = 1; column = 1 }; before = 0; left = bytes }

abbrev pub first_byte : List ℕ → Option ℕ
first_byte [] = None
first_byte (byte ∷ bytes) = Some byte

-- one byte on
abbrev pub byte_passed_from : Position → ℕ → List ℕ → Reading
byte_passed_from p before [] = record { position = p; before = before; left = [] }
byte_passed_from p before (byte ∷ bytes) = record { position = position_after p before byte; before = byte; left = bytes }

abbrev pub byte_passed : Reading → Reading
byte_passed r = byte_passed_from r.position r.before r.left

abbrev pub field_position : List ℕ → Field → Position
field_position text f = (shown_start f.trims (field_start (f.number - 1) (line_start f.line (reading_of (strip_bom text))))).position

-- the end of a text
unfoldable pub end_from : Position → ℕ → List ℕ → Reading
end_from p before [] = record { position = p; before = before; left = [] }
end_from p before (byte ∷ bytes) = end_from (position_after p before byte) byte bytes

abbrev pub text_end : Reading → Reading
text_end r = end_from r.position r.before r.left

abbrev pub line_reading : List ℕ → ℕ → Reading
line_reading text line = line_start line (reading_of (strip_bom text))

abbrev pub end_position : List ℕ → ℕ → Position
end_position text line = (text_end (line_reading text line)).position

abbrev pub is_quoted : FieldPart → Bool
is_quoted Start = false
is_quoted Plain = false
is_quoted Quoted = true
is_quoted Closed = false

-- whether bytes end in quotes, the record that begins with them not having ended before
unfoldable pub ends_in_quotes : FieldPart → List ℕ → Bool
ends_in_quotes part [] = is_quoted part
ends_in_quotes part (byte ∷ bytes) =
    if is_none (part_after part byte) then false else ends_in_quotes (unwrap_or (part_after part byte) Start) bytes

-- whether the text ends in quotes of the record that begins on a line
abbrev pub is_quote_open : List ℕ → ℕ → Bool
is_quote_open text line = ends_in_quotes Start (line_reading text line).left
