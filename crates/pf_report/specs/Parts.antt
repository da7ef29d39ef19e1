-- Arrays by their parts.
use Rattle.std.specs.Prelude.{ℕ, ◌==◌, List, [], ◌∷◌, ◌++◌, Bool, not, if◌then◌else◌}
use Rattle.serde_json.specs.Data.{Data}
use Rattle.serde_json.specs.View.{items_of}
use Rattle.serde_json.specs.Written.{items_text}

-- the text of an array from a place on, of which these elements are left: a comma stands before each but the first
abbrev pub elements_text : ℕ → List Data → List ℕ
elements_text at left = items_text (not (at == 0)) (items_of left)

-- the text of an array that is left: its bracket is opened before the first element, and closed after the last
abbrev pub array_left : Bool → ℕ → List Data → List ℕ
array_left closed at left = if closed then [] else (if at == 0 then 91 ∷ [] else []) ++ elements_text at left
