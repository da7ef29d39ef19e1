-- The fields of a record, counted from 0: numbers and words.
use Rattle.std.specs.Prelude.{ℕ, Bool, ◌==◌, ◌&&◌, List, [], length, slice_index_or, Option}
use Rattle.std.specs.Str.{bytes_eq}
use Rattle.pf_text.specs.Numbers.{number_of}

-- the field at a place, with no byte past the last one
abbrev pub field : List (List ℕ) → ℕ → List ℕ
field fields place = slice_index_or fields place []

-- the number of the field at a place
abbrev pub number : List (List ℕ) → ℕ → Option ℕ
number fields place = number_of (field fields place)

-- whether the field at a place is this word, byte for byte
unfoldable pub is_word : List (List ℕ) → ℕ → List ℕ → Bool
is_word fields place word = bytes_eq (field fields place) word

-- whether the fields are so many, the first of them this word
abbrev pub is_record_of : List (List ℕ) → List ℕ → ℕ → Bool
is_record_of fields word count = (length fields == count) && is_word fields 0 word
