-- The lines of a table that are of some tasks.
use Rattle.std.specs.Prelude.{ℕ, Bool, true, ◌==◌, if◌then◌else◌, Option, List, [], ◌∷◌, ◌++◌, slice_index_or}
use Rattle.std.specs.List.{flat_map}
use Rattle.std.specs.Option.{option_map_or}
use Rattle.pf_text.specs.Numbers.{number_of}
use Rattle.pf_vocabulary.specs.Tasks.Listed.{is_listed}
use Rattle.pf_vocabulary.specs.declared.tasks.task_range.TaskRange.{TaskRange}

-- the fields of a line, which commas (44) join, after a front of the first
unfoldable pub fields_from : List ℕ → List ℕ → List (List ℕ)
fields_from field [] = field ∷ []
fields_from field (byte ∷ bytes) = if byte == 44 then field ∷ fields_from [] bytes else fields_from (field ++ byte ∷ []) bytes

-- the lines of a text, with their ends (10), after a front of the first
unfoldable pub lines_from : List ℕ → List ℕ → List (List ℕ)
lines_from line [] = line ∷ []
lines_from line (byte ∷ bytes) = if byte == 10 then (line ++ byte ∷ []) ∷ lines_from [] bytes else lines_from (line ++ byte ∷ []) bytes

-- a line is shown whose field in the column is a task of these, or is no number, as in the heading
abbrev pub is_shown : List TaskRange → ℕ → List ℕ → Bool
is_shown tasks column line = option_map_or (is_listed tasks) (number_of (slice_index_or (fields_from [] line) column [])) true

abbrev pub shown_line : List TaskRange → ℕ → List ℕ → List ℕ
shown_line tasks column line = if is_shown tasks column line then line else []

-- the lines of a text that are shown, after a front of the first
abbrev pub shown_from : List TaskRange → ℕ → List ℕ → List ℕ → List ℕ
shown_from tasks column line text = flat_map (shown_line tasks column) (lines_from line text)

-- the lines of a table that are of these tasks, and its heading
abbrev pub listed_text : List TaskRange → ℕ → List ℕ → List ℕ
listed_text tasks column table = shown_from tasks column [] table
