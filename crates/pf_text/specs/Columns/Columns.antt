-- A table in columns: each as wide as its widest cell, cells at the left, columns two blanks apart, and no blanks at the end
-- of a line. A row is the list of its cells.
use Rattle.std.specs.Prelude.{◌≡◌, ℕ, ◌+◌, ◌-◌, ◌==◌, max, if◌then◌else◌, List, [], ◌∷◌, ◌++◌, length, map, replicate, codes, slice_index_or}
use Rattle.std.specs.List.{flat_map, range_with_len}

-- the cell in a column, without text where the row ends before it
abbrev pub cell_at : List (List ℕ) → ℕ → List ℕ
cell_at row column = slice_index_or row column []

-- the length of the widest cell of a column
unfoldable pub width_of : List (List (List ℕ)) → ℕ → ℕ
width_of [] column = 0
width_of (row ∷ rows) column = max (length (cell_at row column)) (width_of rows column)

-- these are the widths of the first columns
abbrev pub AreWidths : List (List (List ℕ)) → List ℕ → Type 0
AreWidths rows widths = widths ≡ map (width_of rows) (range_with_len 0 (length widths))

-- a cell with blanks after it up to the width of its column, and two more
abbrev pub padded : ℕ → List ℕ → List ℕ
padded width cell = cell ++ replicate (width - length cell) 32 ++ codes "  "

-- the cells of a row from a column on, padded
unfoldable pub padded_from : List (List (List ℕ)) → ℕ → List (List ℕ) → List ℕ
padded_from rows column [] = []
padded_from rows column (cell ∷ cells) = padded (width_of rows column) cell ++ padded_from rows (column + 1) cells

-- a text without the blanks at its end
abbrev pub without_blank : ℕ → List ℕ → List ℕ
without_blank byte [] = if byte == 32 then [] else byte ∷ []
without_blank byte (other ∷ rest) = byte ∷ other ∷ rest

unfoldable pub without_end_blanks : List ℕ → List ℕ
without_end_blanks [] = []
without_end_blanks (byte ∷ bytes) = without_blank byte (without_end_blanks bytes)

-- the line of a row
unfoldable pub row_line : List (List (List ℕ)) → List (List ℕ) → List ℕ
row_line rows row = without_end_blanks (padded_from rows 0 row) ++ codes "\n"

-- a table of these rows
abbrev pub columns_text : List (List (List ℕ)) → List ℕ
columns_text rows = flat_map (row_line rows) rows
