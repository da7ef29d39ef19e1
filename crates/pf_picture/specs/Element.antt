-- How numbers and words stand in the lines of a picture.
use Rattle.std.specs.Prelude.{ℕ, List, ◌++◌}
use Rattle.std.specs.Fmt.{decimal}

-- a text, a number, and what follows
abbrev pub put : List ℕ → ℕ → List ℕ → List ℕ
put text number rest = (text ++ decimal number) ++ rest

-- a text, a word, and what follows
abbrev pub put_word : List ℕ → List ℕ → List ℕ → List ℕ
put_word text word rest = (text ++ word) ++ rest
