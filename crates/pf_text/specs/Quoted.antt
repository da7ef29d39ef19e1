-- A field as it is shown.
use Rattle.std.specs.Prelude.{ℕ, ◌==◌, ◌&&◌, not, Bool, nat_le, if◌then◌else◌, List, [], ◌∷◌, ◌++◌, take, codes}
use Rattle.std.specs.List.{flat_map}
use Rattle.pf_text.specs.Escape.{escape}
use Rattle.pf_text.specs.declared.quoted.TheConstants.{MOST_SHOWN}

-- a byte as it is shown: 32 to 126 as it is, but for `"` and `\`, any other one by two digits of base 16
abbrev pub is_plain_byte : ℕ → Bool
is_plain_byte byte = nat_le 32 byte && nat_le byte 126 && not (byte == 34) && not (byte == 92)

abbrev pub shown_byte : ℕ → List ℕ
shown_byte byte = if is_plain_byte byte then byte ∷ [] else escape byte

-- a field in quotes, cut
unfoldable pub quoted : List ℕ → List ℕ
quoted bytes = codes "\"" ++ flat_map shown_byte (take MOST_SHOWN bytes) ++ codes "\""
