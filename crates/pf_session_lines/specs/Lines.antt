-- The row of a line: its fields, if it has any.
use Rattle.std.specs.Prelude.{ℕ, ◌==◌, ◌&&◌, ◌||◌, not, Bool, true, false, if◌then◌else◌, List, [], ◌∷◌, ◌++◌, Option, None, Some, codes}
use Rattle.std.specs.List.{flat_map, list_any}
use Rattle.pf_text.specs.Rows.Rows.{Row, rows}

-- the end of a line, where it stands within one
abbrev pub is_end : ℕ → Bool
is_end byte = (byte == 10) || (byte == 13)

-- a space, a tab, or an end within a line
abbrev pub is_blank : ℕ → Bool
is_blank byte = (byte == 32) || (byte == 9) || is_end byte

abbrev pub skip_blanks : List ℕ → List ℕ
skip_blanks [] = []
skip_blanks (byte ∷ bytes) = if is_blank byte then skip_blanks bytes else byte ∷ bytes

-- whether its first byte is `#`
abbrev pub is_comment : List ℕ → Bool
is_comment [] = false
is_comment (byte ∷ bytes) = byte == 35

-- a byte of a record, which no end within the line ends
abbrev pub within_row : ℕ → List ℕ
within_row byte = (if is_end byte then 32 else byte) ∷ []

-- a byte, after a comma where it comes after blanks that part fields
abbrev pub parted_byte : Bool → ℕ → List ℕ
parted_byte is_behind byte = (if is_behind then codes "," else []) ++ within_row byte

-- whether a byte lies in quotes, or the next one
abbrev pub in_quotes : Bool → ℕ → Bool
in_quotes quoted byte = if byte == 34 then not quoted else quoted

-- a comma in place of the blanks between two fields, but not of those in quotes; `is_behind`: the next byte comes after such blanks
unfoldable pub parted : Bool → Bool → List ℕ → List ℕ
parted quoted is_behind [] = []
parted quoted is_behind (byte ∷ bytes) =
    if is_blank byte && not quoted then parted quoted true bytes
    else parted_byte is_behind byte ++ parted (in_quotes quoted byte) false bytes

-- the record of a line that is no comment, as CSV: where it has no comma, blanks part its fields
abbrev pub record_text : List ℕ → List ℕ
record_text line = if list_any (λ byte. byte == 44) line then flat_map within_row line else parted false false (skip_blanks line)

abbrev pub row_text : List ℕ → List ℕ
row_text line = if is_comment (skip_blanks line) then [] else record_text line

abbrev pub first_row : List Row → Option (List (List ℕ))
first_row [] = None
first_row (row ∷ rows) = Some row.fields

-- the fields of a line
abbrev pub fields_in : List ℕ → Option (List (List ℕ))
fields_in line = first_row (rows (row_text line)).rows

-- fields as a line of a script
abbrev pub line_of : List (List ℕ) → List ℕ
line_of [] = codes "\n"
line_of (field ∷ fields) = field ++ (flat_map (λ f. codes "," ++ f) fields ++ codes "\n")
