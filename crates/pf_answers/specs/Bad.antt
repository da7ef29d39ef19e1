-- The answer to a bad line.
use Rattle.std.specs.Prelude.{ℕ, ◌==◌, ◌||◌, Bool, nat_lt, if◌then◌else◌, List, [], ◌++◌, length, codes}
use Rattle.std.specs.Fmt.{decimal}
use Rattle.json.specs.Print.{quoted}
use Rattle.pf_message.specs.Form.{hint_line}
use Rattle.pf_answers.specs.declared.manner.Manner.{Manner}

-- the field that is at fault, which is told from the second on; 0 where none is
abbrev pub field_front : ℕ → List ℕ
field_front field = if nat_lt 1 field then codes "field " ++ (decimal field ++ codes ": ") else []

abbrev pub field_member : ℕ → List ℕ
field_member field = if nat_lt 1 field then codes "\"field\":" ++ (decimal field ++ codes ",") else []

-- what would be right, which is told where there is something to tell; `-q` leaves the line out
abbrev pub hint_if : Bool → List ℕ → List ℕ
hint_if quiet hint = if quiet || length hint == 0 then [] else hint_line hint

abbrev pub hint_member : List ℕ → List ℕ
hint_member hint = if length hint == 0 then [] else codes "\"hint\":" ++ (quoted hint ++ codes ",")

abbrev pub bad_line : ℕ → List ℕ → List ℕ
bad_line field words = codes "bad line: " ++ (field_front field ++ (words ++ codes "\n"))

abbrev pub bad_json : ℕ → List ℕ → List ℕ → List ℕ
bad_json field words hint =
    codes "{\"bad\":{" ++ (field_member field ++ (hint_member hint ++ (codes "\"text\":" ++ (quoted words ++ codes "}}\n"))))

abbrev pub bad_text : Manner → ℕ → List ℕ → List ℕ → List ℕ
bad_text manner field words hint = if manner.json then bad_json field words hint else bad_line field words ++ hint_if manner.quiet hint
