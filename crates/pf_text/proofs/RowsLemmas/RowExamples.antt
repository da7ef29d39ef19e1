-- Rows of small texts, computed from the definitions.
use Rattle.std.proofs.Common.{◌≡◌, [], ◌∷◌, refl, codes}
use Rattle.csv.proofs.OnLiterals.{csv_on_literals}
use Rattle.csv.specs.Records.{trim_end, trim_start}
use Rattle.pf_text.specs.Rows.Places.{lines_from}
use Rattle.pf_text.specs.Rows.Rows.{rows}

-- comments, empty lines and lines of blanks are no rows; a row has the line of its first byte
pub comments : rows (codes "# x\n\na, b\n \n#y") ≡ record {
  rows = record { line = 3; fields = codes "a" ∷ codes "b" ∷ [] } ∷ [];
  end = 5;
}
unfolding csv_on_literals lines_from trim_end trim_start
comments = refl

-- a lone CR does not end a comment, but ends a line
pub lone-return : rows (codes "#a\rb\nc") ≡ record { rows = record { line = 3; fields = codes "c" ∷ [] } ∷ []; end = 3 }
unfolding csv_on_literals lines_from trim_end trim_start
lone-return = refl

-- after a blank or in quotes `#` begins no comment, and blanks are dropped in quotes too
pub no-comment : rows (codes " # x\n\" 2 \"") ≡ record {
  rows = record { line = 1; fields = codes "# x" ∷ [] } ∷ record { line = 2; fields = codes "2" ∷ [] } ∷ [];
  end = 2;
}
unfolding csv_on_literals lines_from trim_end trim_start
no-comment = refl

-- two empty fields are a row
pub two-fields : rows (codes "\"\"\n,\n") ≡ record { rows = record { line = 2; fields = [] ∷ [] ∷ [] } ∷ []; end = 3 }
unfolding csv_on_literals lines_from trim_end trim_start
two-fields = refl
