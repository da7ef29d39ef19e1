-- A report has no float.
use Rattle.std.proofs.Common.{◌≡◌, false, List, [], ◌∷◌, Option, None, Some, refl}
use Rattle.serde_json.specs.Data.{Data}
use Rattle.serde_json.specs.Written.{has_float}
use Rattle.pf_order.specs.declared.pick.Pick.{Pick}
use Rattle.pf_report.specs.Json.{array_data, sitter_data}

pub array_plain : {X : Type 0} (show : X → Data) → ((x : X) → has_float (show x) ≡ false) → (xs : List X) → has_float (array_data show xs) ≡ false
array_plain show each [] = refl
array_plain show each (x ∷ xs) = rw (each x) (array_plain show each xs)

pub sitter_plain : (sitter : Option Pick) → has_float (sitter_data sitter) ≡ false
sitter_plain None = refl
sitter_plain (Some pick) = refl

pub row_plain : (row : List (Option Pick)) → has_float (array_data sitter_data row) ≡ false
row_plain row = array_plain sitter_data sitter_plain row
