-- Words that are parted by blanks, in lines of up to 79 bytes.
use Rattle.std.specs.Prelude.{ℕ, ◌+◌, ◌==◌, nat_le, Bool, if◌then◌else◌, List, [], ◌∷◌, ◌++◌, length, codes}

-- a line of this width holds a word more
abbrev pub holds_word : ℕ → List ℕ → Bool
holds_word width word = nat_le (width + 1 + length word) 79

-- what stands before a word on or after a line of this width
abbrev pub gap_before : ℕ → List ℕ → List ℕ
gap_before width word = if width == 0 then codes "" else if holds_word width word then codes " " else codes "\n  "

-- the width of the line on which it is then
abbrev pub width_after : ℕ → List ℕ → ℕ
width_after width word = if width == 0 then length word else if holds_word width word then width + 1 + length word else length word + 2

abbrev pub word_text : ℕ → List ℕ → List ℕ
word_text width word = gap_before width word ++ word

-- the lines of what is left of the words, after a line of this width and the front of a word
unfoldable pub filled_from : ℕ → List ℕ → List ℕ → List ℕ
filled_from width word [] = word_text width word ++ codes "\n"
filled_from width word (byte ∷ bytes) =
    if byte == 32 then word_text width word ++ filled_from (width_after width word) [] bytes else filled_from width (word ++ byte ∷ []) bytes

abbrev pub filled : List ℕ → List ℕ
filled words = filled_from 0 [] words
