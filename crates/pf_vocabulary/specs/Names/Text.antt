-- What may be a name.
use Rattle.std.specs.Prelude.{ℕ, Bool, false, ◌==◌, ◌&&◌, ◌||◌, not, nat_le, if◌then◌else◌, List, [], ◌∷◌, length, eqb, codes, Option, None, Some}
use Rattle.std.specs.Char.{is_ascii_alphabetic, is_ascii_alphanumeric}
use Rattle.std.specs.List.{list_all, ends_with}

-- `_` `-` `.` `+` and space
abbrev pub is_text_byte : ℕ → Bool
is_text_byte byte = is_ascii_alphanumeric byte || (byte == 95) || (byte == 45) || (byte == 46) || (byte == 43) || (byte == 32)

abbrev pub is_letter_first : List ℕ → Bool
is_letter_first [] = false
is_letter_first (first ∷ rest) = is_ascii_alphabetic first

-- 1 to 24 bytes, a letter first and no space last
unfoldable pub is_text : List ℕ → Bool
is_text bytes =
    nat_le (length bytes) 24 && is_letter_first bytes && list_all is_text_byte bytes && not (ends_with eqb bytes (codes " "))

-- the name that a field is
abbrev pub name_in : List ℕ → Option (List ℕ)
name_in field = if is_text field then Some field else None
