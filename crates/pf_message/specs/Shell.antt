-- A word as a POSIX shell reads it.
use Rattle.std.specs.Prelude.{ℕ, Bool, ◌||◌, ◌&&◌, ◌==◌, nat_le, not, length, if◌then◌else◌, List, [], ◌∷◌, ◌++◌, codes}
use Rattle.std.specs.List.{flat_map, list_all}

-- a byte that needs no quotes
abbrev pub is_safe_byte : ℕ → Bool
is_safe_byte byte =
    (nat_le 97 byte && nat_le byte 122) || (nat_le 65 byte && nat_le byte 90) || (nat_le 48 byte && nat_le byte 57)
    || byte == 95 || byte == 46 || byte == 47 || byte == 61 || byte == 44 || byte == 58 || byte == 43 || byte == 64 || byte == 37 || byte == 45

abbrev pub is_safe : List ℕ → Bool
is_safe word = not (length word == 0) && list_all is_safe_byte word

-- a byte within single quotes: a quote ends them, stands by itself, and begins others
abbrev pub quoted_byte : ℕ → List ℕ
quoted_byte byte = if byte == 39 then codes "'\\''" else byte ∷ []

-- in quotes where it has other bytes, or none
abbrev pub shell_word : List ℕ → List ℕ
shell_word word = if is_safe word then word else codes "'" ++ flat_map quoted_byte word ++ codes "'"
