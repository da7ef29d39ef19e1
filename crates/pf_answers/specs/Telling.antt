-- An answer that tells one thing, as a line of text and as an object.
use Rattle.std.specs.Prelude.{ℕ, Bool, true, false, List, [], ◌++◌, codes}
use Rattle.json.specs.Print.{quoted}

abbrev pub told_text : Bool → List ℕ → List ℕ
told_text false words = words ++ codes "\n"
told_text true words = codes "{\"text\":" ++ (quoted words ++ codes "}\n")

-- the settings were taken
abbrev pub ready_text : Bool → List ℕ
ready_text false = codes "ready\n"
ready_text true = codes "{\"ready\":true}\n"

-- what has no text was taken
abbrev pub taken_text : Bool → List ℕ
taken_text false = []
taken_text true = codes "{\"ok\":true}\n"
