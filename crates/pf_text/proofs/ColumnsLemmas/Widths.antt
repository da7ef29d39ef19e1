-- Columns of a table, row by row and cell by cell.
use Rattle.std.proofs.Common.{◌≡◌, ℕ, ◌+◌, ◌<◌, ◌≤◌, ◌∙◌, List, [], ◌∷◌, ◌++◌, drop, length, get_or, sym, ap, arith, append_assoc, append-nil}
use Rattle.std.specs.Prelude.{max}
use Rattle.std.proofs.lemmas.List.{at_drop_more, at_drop_all}
use Rattle.pf_lemmas.proofs.Orders.{max_grouped}
use Rattle.pf_text.specs.Columns.Columns.{cell_at, width_of, padded, padded_from, row_line, without_end_blanks}

pub row_looked_at : (rows : List (List (List ℕ))) (i column width : ℕ) (row : List (List ℕ)) → i < length rows → row ≡ get_or rows i row
    → max width (width_of (drop i rows) column) ≡ width_of rows column
    → max (max width (length (cell_at row column))) (width_of (drop (i + 1) rows) column) ≡ width_of rows column
unfolding width_of
row_looked_at rows i column width row lt is h =
    let step : width_of (drop i rows) column ≡ max (length (cell_at (get_or rows i row) column)) (width_of (drop (i + 1) rows) column) =
    at_drop_more (λ rs. width_of rs column) rows i row lt in
    max_grouped width (length (cell_at row column)) (width_of (drop (i + 1) rows) column)
    ∙ ap (λ r. max width (max (length (cell_at r column)) (width_of (drop (i + 1) rows) column))) is
    ∙ ap (λ v. max width v) (sym step) ∙ h

pub all_looked_at : (rows : List (List (List ℕ))) (i column width : ℕ) → length rows ≤ i
    → max width (width_of (drop i rows) column) ≡ width_of rows column → width ≡ width_of rows column
unfolding width_of
all_looked_at rows i column width le h =
    let end : width_of (drop i rows) column ≡ 0 = at_drop_all (λ rs. width_of rs column) rows i le in
    omega (arith, h, end)

pub cell_padded : (rows : List (List (List ℕ))) (row : List (List ℕ)) (column : ℕ) (line longer : List ℕ) → column < length row
    → longer ≡ line ++ padded (width_of rows column) (cell_at row column)
    → line ++ padded_from rows column (drop column row) ≡ padded_from rows 0 row
    → longer ++ padded_from rows (column + 1) (drop (column + 1) row) ≡ padded_from rows 0 row
unfolding padded_from
cell_padded rows row column line longer lt e h =
    let step : padded_from rows column (drop column row)
    ≡ padded (width_of rows column) (cell_at row column) ++ padded_from rows (column + 1) (drop (column + 1) row) =
    at_drop_more (padded_from rows column) row column [] lt in
    ap (λ v. v ++ padded_from rows (column + 1) (drop (column + 1) row)) e
    ∙ append_assoc line (padded (width_of rows column) (cell_at row column)) (padded_from rows (column + 1) (drop (column + 1) row))
    ∙ ap (λ v. line ++ v) (sym step) ∙ h

pub all_padded : (rows : List (List (List ℕ))) (row : List (List ℕ)) (column : ℕ) (line : List ℕ) → length row ≤ column
    → line ++ padded_from rows column (drop column row) ≡ padded_from rows 0 row → line ≡ padded_from rows 0 row
unfolding padded_from
all_padded rows row column line le h =
    let end : padded_from rows column (drop column row) ≡ [] = at_drop_all (padded_from rows column) row column le in
    sym (append-nil line) ∙ ap (λ v. line ++ v) (sym end) ∙ h

pub line_of : (rows : List (List (List ℕ))) (row : List (List ℕ)) (text line shown longer ended : List ℕ) → line ≡ padded_from rows 0 row
    → shown ≡ without_end_blanks line → longer ≡ text ++ shown → ended ≡ longer ++ 10 ∷ [] → ended ≡ text ++ row_line rows row
unfolding row_line
line_of rows row text line shown longer ended a b e f =
    f ∙ ap (λ v. v ++ 10 ∷ []) (e ∙ ap (λ v. text ++ v) (b ∙ ap without_end_blanks a))
    ∙ append_assoc text (without_end_blanks (padded_from rows 0 row)) (10 ∷ [])
