-- A file's name as it is shown.
use Rattle.std.specs.Prelude.{ℕ, zero, suc, ◌+◌, ◌-◌, ◌==◌, ◌||◌, ◌&&◌, Bool, not, length, slice_index, take, if◌then◌else◌, List, [], ◌∷◌, ◌++◌, codes}
use Rattle.std.specs.Char.{is_control}
use Rattle.std.specs.Int.{is_in_range}
use Rattle.std.specs.List.{list_any}
use Rattle.std.specs.Str.{chars, continuation_len, is_utf8}
use Rattle.pf_text.specs.Escape.{escape}

-- the marks of direction, Unicode's Bidi_Control
abbrev pub is_direction_mark : ℕ → Bool
is_direction_mark character =
    character == 0x61C || is_in_range 0x200E 0x200F character || is_in_range 0x202A 0x202E character || is_in_range 0x2066 0x2069 character

-- a character that acts on a terminal and has no shape
abbrev pub is_hidden : ℕ → Bool
is_hidden character = is_control character || is_direction_mark character

-- bytes that are shown as they are: UTF-8 without such a character
unfoldable pub is_plain : List ℕ → Bool
is_plain bytes = is_utf8 bytes && not (list_any is_hidden (chars bytes))

-- the bytes at the front, as many as the first of them asks for in UTF-8
abbrev pub front_bytes : List ℕ → List ℕ
front_bytes bytes = take (continuation_len (slice_index bytes 0) + 1) bytes

-- how many bytes the character at the front has where it is shown as it is, else 0
unfoldable pub plain_len : List ℕ → ℕ
plain_len bytes = if is_plain (front_bytes bytes) then length (front_bytes bytes) else 0

-- bytes of which so many at the front are of a character that is shown as it is
abbrev pub shown_after : ℕ → List ℕ → List ℕ
shown_after left [] = []
shown_after (suc left) (byte ∷ bytes) = byte ∷ shown_after left bytes
shown_after zero (byte ∷ bytes) =
    if plain_len (byte ∷ bytes) == 0 then escape byte ++ shown_after 0 bytes else byte ∷ shown_after (plain_len (byte ∷ bytes) - 1) bytes

-- a name, `""` where it has no byte
abbrev pub file_text : List ℕ → List ℕ
file_text [] = codes "\"\""
file_text (byte ∷ bytes) = shown_after 0 (byte ∷ bytes)
