-- Forms with holes: `#` stands for a number, `@` for a number of slots as a time, `$` for what the task is called, `%` for its
-- name or its number.
use Rattle.std.specs.Prelude.{ℕ, ◌==◌, Bool, ◌||◌, if◌then◌else◌, List, [], ◌∷◌, ◌++◌, drop}
use Rattle.std.specs.Fmt.{decimal}
use Rattle.pf_trace.specs.Times.{time_text}
use Rattle.pf_trace.specs.Titles.{Called}

abbrev pub is_hole : ℕ → Bool
is_hole byte = byte == 35 || byte == 64 || byte == 36 || byte == 37

-- what stands in a hole
abbrev pub hole_text : Called → ℕ → ℕ → List ℕ
hole_text title hole n =
    if hole == 36 then title.label else if hole == 37 then title.tag else if hole == 64 then time_text title.step n else decimal n

-- the next number, 0 where there is none
abbrev pub first_number : List ℕ → ℕ
first_number [] = 0
first_number (n ∷ ns) = n

-- the text of a form, each hole filled with the next number
unfoldable pub filled : Called → List ℕ → List ℕ → List ℕ
filled title [] ns = []
filled title (byte ∷ form) ns =
    if is_hole byte then hole_text title byte (first_number ns) ++ filled title form (drop 1 ns) else byte ∷ filled title form ns
