-- What is said of the fields of a record.
use Rattle.std.specs.Prelude.{ℕ, Bool, List, ◌++◌, codes}
use Rattle.pf_text.specs.Quoted.{quoted}
use Rattle.pf_script.specs.Messages.Forms.{field_name, record_form}

-- one that is not there
abbrev pub missing_text : Bool → List (List ℕ) → ℕ → List ℕ
missing_text plan fields number = field_name plan fields number ++ codes " is missing: " ++ record_form plan fields

-- the first one too much
abbrev pub too_much_text : Bool → List (List ℕ) → List ℕ
too_much_text plan fields = codes "a field too much: " ++ record_form plan fields

-- one that is there, with its name before what is wrong
abbrev pub named_text : Bool → List (List ℕ) → ℕ → List ℕ → List ℕ
named_text plan fields number why = field_name plan fields number ++ codes ": " ++ why

abbrev pub shown_text : List ℕ → List ℕ → List ℕ
shown_text at why = quoted at ++ why
