-- The rows of a text: its records by CSV with comments from `#`, without the blanks around each field, but for those that
-- have nothing but one empty field.
use Rattle.std.specs.Prelude.{ℕ, ◌≡◌, Bool, true, false, if◌then◌else◌, map, List, [], ◌∷◌}
use Rattle.csv.specs.Reading.{records, strip_bom}
use Rattle.csv.specs.Records.{trimmed}
use Rattle.pf_text.specs.declared.rows.rows.NextRow.{NextRow}
use Rattle.pf_text.specs.declared.rows.rows.NextRow.TheVariants.{Found, End}
use Rattle.pf_text.specs.Rows.Places.{line_at, lines_behind, record_lines, row_config}

-- a row, and the line on which its first byte lies
pub record Row : Type 0 where
  pub line : ℕ
  pub fields : List (List ℕ)

-- rows, and the line of the text's end
pub record Table : Type 0 where
  pub rows : List Row
  pub end : ℕ

-- one empty field is no row
abbrev pub is_blank : List (List ℕ) → Bool
is_blank [] = false
is_blank ([] ∷ []) = true
is_blank ([] ∷ more ∷ fields) = false
is_blank ((byte ∷ bytes) ∷ fields) = false

abbrev pub with_row : ℕ → List (List ℕ) → Table → Table
with_row line fields t = if is_blank fields then t else record t { rows = record { line = line; fields = fields } ∷ t.rows }

-- the records of a text, without the blanks around each field
abbrev pub text_records : List ℕ → List (List (List ℕ))
text_records text = map (map trimmed) (records row_config (strip_bom text))

-- the rows among these records, which begin on these lines
abbrev pub rows_of : List ℕ → List (List (List ℕ)) → Table
rows_of lines [] = record { rows = []; end = line_at lines }
rows_of lines (fields ∷ records) = with_row (line_at lines) fields (rows_of (lines_behind lines) records)

-- the rows of a text
abbrev pub rows : List ℕ → Table
rows text = rows_of (record_lines text) (text_records text)

-- the next of the rows that were left, with these fields; or there is none
abbrev pub TakesRow : NextRow → List (List ℕ) → Table → Table → Type 0
TakesRow (Found line) fields old new = old ≡ record { rows = record { line = line; fields = fields } ∷ new.rows; end = new.end }
TakesRow (End line) fields old new = old ≡ record { rows = []; end = line }
