-- A byte that is not shown as it is.
use Rattle.std.specs.Prelude.{ℕ, ◌/◌, ◌%◌, true, List, [], ◌∷◌, ◌++◌, codes}
use Rattle.std.specs.Fmt.{digit_glyph}

-- a byte by two digits of base 16
abbrev pub escape : ℕ → List ℕ
escape byte = codes "\\x" ++ digit_glyph true (byte / 16) ∷ digit_glyph true (byte % 16) ∷ []
