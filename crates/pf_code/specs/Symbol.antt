-- What the names of a table begin with, and the names of its tasks.
use Rattle.std.specs.Prelude.{ℕ, Bool, ◌==◌, ◌&&◌, ◌||◌, nat_le, if◌then◌else◌, List, length, map, codes, Option, None, Some}
use Rattle.std.specs.Char.{is_ascii_alphanumeric, to_ascii_uppercase}
use Rattle.std.specs.List.{list_all}
use Rattle.pf_vocabulary.specs.Names.Text.{is_letter_first}

abbrev pub is_symbol_byte : ℕ → Bool
is_symbol_byte byte = is_ascii_alphanumeric byte || byte == 95

-- a letter, and up to 30 letters, digits and `_`
unfoldable pub is_symbol : List ℕ → Bool
is_symbol word = nat_le (length word) 31 && is_letter_first word && list_all is_symbol_byte word

-- the symbol that a word is
abbrev pub symbol_in : List ℕ → Option (List ℕ)
symbol_in word = if is_symbol word then Some word else None

abbrev pub usual_symbol : List ℕ
usual_symbol = codes "pfair"

-- letters in capitals, and any other byte as it is
abbrev pub capitals : List ℕ → List ℕ
capitals word = map to_ascii_uppercase word

-- a byte of a name in a name of C: letters in capitals, digits as they are, and `_` in place of any other
abbrev pub identifier_byte : ℕ → ℕ
identifier_byte byte = if is_ascii_alphanumeric byte then to_ascii_uppercase byte else 95

abbrev pub identifier_of : List ℕ → List ℕ
identifier_of name = map identifier_byte name
