-- A table's text is that of csv's default, whose records all have the same number of fields.
use Rattle.std.proofs.Common.{◌≡◌, ℕ, Bool, ◌==◌, List, [], ◌∷◌, ◌++◌, length, refl, ap, ap₂, if◌then◌else◌}
use Rattle.std.specs.List.{list_any}
use Rattle.csv.specs.Machine.{line_feed}
use Rattle.csv.specs.Quoting.{needs_byte}
use Rattle.csv.specs.Writing.{comma, default_writer, escaped, field_text, fields_text, is_blank, quote_mark, row_body, row_text}
use Rattle.pf_text.specs.Page.{table_writer}

escaped_same : (field : List ℕ) → escaped table_writer field ≡ escaped default_writer field
unfolding escaped
escaped_same [] = refl
escaped_same (b ∷ rest) = ap (λ (t : List ℕ). if b == quote_mark then quote_mark ∷ b ∷ t else b ∷ t) (escaped_same rest)

field_same : (field : List ℕ) → field_text table_writer field ≡ field_text default_writer field
field_same field =
    ap (λ (t : List ℕ). if list_any (needs_byte default_writer) field then quote_mark ∷ (t ++ quote_mark ∷ []) else field) (escaped_same field)

fields_same : (fields : List (List ℕ)) → fields_text table_writer fields ≡ fields_text default_writer fields
unfolding fields_text
fields_same [] = refl
fields_same (field ∷ rest) = ap₂ (λ (a b : List ℕ). comma ∷ (a ++ b)) (field_same field) (fields_same rest)

body_same : (fields : List (List ℕ)) → row_body table_writer fields ≡ row_body default_writer fields
body_same [] = refl
body_same (field ∷ rest) = ap₂ (λ (a b : List ℕ). a ++ b) (field_same field) (fields_same rest)

blank_same : (fields : List (List ℕ)) → is_blank table_writer fields ≡ is_blank default_writer fields
unfolding is_blank
blank_same [] = refl
blank_same (field ∷ []) = ap (λ (t : List ℕ). length t == 0) (field_same field)
blank_same (field ∷ next ∷ rest) = refl

-- Use: of a record.
pub row_same : (fields : List (List ℕ)) → row_text table_writer fields ≡ row_text default_writer fields
row_same fields =
    ap₂ (λ (body : List ℕ) (blank : Bool). body ++ ((if blank then quote_mark ∷ quote_mark ∷ [] else []) ++ line_feed ∷ []))
    (body_same fields) (blank_same fields)
