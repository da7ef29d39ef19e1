-- What tells a list of tasks from a script.
use Rattle.std.specs.Prelude.{ℕ, ◌==◌, ◌&&◌, ◌||◌, Bool, false, nat_le, is_some, List, [], ◌∷◌, length, map, slice_index_or}
use Rattle.std.specs.List.{count_by, slice_split}
use Rattle.csv.specs.Records.{trimmed}
use Rattle.pf_text.specs.Rows.Rows.{Row, rows}
use Rattle.pf_convert.specs.List.Heading.{column_named}

-- two of these fields, or more, name columns
abbrev pub names_columns : List (List ℕ) → Bool
names_columns fields = nat_le 2 (count_by (λ field. is_some (column_named field)) fields)

-- the parts of a field between these bytes, without the blanks around each
abbrev pub parts_at : ℕ → List ℕ → List (List ℕ)
parts_at separator field = map trimmed (slice_split (λ b. b == separator) field)

-- semicolons or tabs part its columns
abbrev pub parts_columns : List ℕ → Bool
parts_columns field = names_columns (parts_at 59 field) || names_columns (parts_at 9 field)

-- a row is the heading of a list
abbrev pub heads_list : List (List ℕ) → Bool
heads_list fields = names_columns fields || ((length fields == 1) && parts_columns (slice_index_or fields 0 []))

-- the first row is
abbrev pub first_heads : List Row → Bool
first_heads [] = false
first_heads (row ∷ rows) = heads_list row.fields

-- a text is a list of tasks
abbrev pub is_list : List ℕ → Bool
is_list text = first_heads (rows text).rows
