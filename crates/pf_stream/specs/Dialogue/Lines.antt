-- The lines of bytes that come in pieces.
use Rattle.std.specs.Prelude.{ℕ, ◌≡◌, ◌==◌, nat_lt, if◌then◌else◌, Option, None, Some, List, [], ◌∷◌, ◌++◌, length}
use Rattle.pf_stream.specs.declared.dialogue.lines.TheConstants.{LINE_KEPT}

-- a line with one more byte; of a long one its front is kept
abbrev pub longer : List ℕ → ℕ → List ℕ
longer line byte = if nat_lt (length line) LINE_KEPT then line ++ byte ∷ [] else line

-- a line at its end, with the line feed that ends it
abbrev pub ended : List ℕ → List ℕ
ended line = line ++ 10 ∷ []

-- after the front of a line: the lines that end in these bytes, each with its line feed, and the line that is not at its end
abbrev pub lines_in : List ℕ → List ℕ → List (List ℕ)
lines_in line [] = []
lines_in line (byte ∷ bytes) = if byte == 10 then ended line ∷ lines_in [] bytes else lines_in (longer line byte) bytes

abbrev pub rest_in : List ℕ → List ℕ → List ℕ
rest_in line [] = line
rest_in line (byte ∷ bytes) = if byte == 10 then rest_in [] bytes else rest_in (longer line byte) bytes

-- the front of a line, no more of it than is kept
pub record IsFront (line : List ℕ) : Type 0 where
  pub lines : lines_in [] line ≡ []
  pub rest : rest_in [] line ≡ line

-- the last line where no bytes are left: it lacks its line feed
abbrev pub last_line : List ℕ → List (List ℕ)
last_line [] = []
last_line (byte ∷ bytes) = (byte ∷ bytes) ∷ []

-- what is ahead, to be answered: what was left of what came before, and what came when more was asked for, if it was
abbrev pub ahead_with : List ℕ → Option (List ℕ) → List ℕ
ahead_with ahead None = ahead
ahead_with ahead (Some bytes) = ahead ++ bytes

-- the lines that are at their end then; where nothing came, that is the end of all
abbrev pub lines_at : List ℕ → Option (List ℕ) → List (List ℕ)
lines_at ahead None = lines_in [] ahead
lines_at ahead (Some []) = last_line ahead
lines_at ahead (Some (byte ∷ bytes)) = lines_in [] (ahead ++ byte ∷ bytes)
