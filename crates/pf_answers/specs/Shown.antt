-- The answer to a word that shows a text.
use Rattle.std.specs.Prelude.{ℕ, Bool, true, false, ◌==◌, if◌then◌else◌, List, [], ◌∷◌, ◌++◌, codes}
use Rattle.std.specs.List.{flat_map}
use Rattle.json.specs.Print.{quoted}

-- JSON on one line: within its strings no line ends
abbrev pub unless_end : ℕ → List ℕ
unless_end byte = if byte == 10 then [] else byte ∷ []

abbrev pub on_one_line : List ℕ → List ℕ
on_one_line text = flat_map unless_end text

-- the text; as an object, that of a format that is JSON itself is a value
abbrev pub shown_text : Bool → Bool → List ℕ → List ℕ
shown_text false is_value text = text
shown_text true false text = codes "{\"text\":" ++ (quoted text ++ codes "}\n")
shown_text true true text = codes "{\"value\":" ++ (on_one_line text ++ codes "}\n")
