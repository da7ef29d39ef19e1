-- The lines of a text, each with an LF at its end.
use Rattle.std.specs.Prelude.{ℕ, ◌≡◌, ◌<◌, true, List, [], ◌∷◌, ◌++◌, length, if◌then◌else◌, ◌==◌}
use Rattle.pf_journal.specs.Lines.{is_text}

-- the lines that end in a text, after the front of one; what stands after the last of them is left out
abbrev pub whole_behind : List ℕ → List ℕ → List (List ℕ)
whole_behind line [] = []
whole_behind line (byte ∷ bytes) = if byte == 10 then line ∷ whole_behind [] bytes else whole_behind (line ++ byte ∷ []) bytes

abbrev pub whole_lines : List ℕ → List (List ℕ)
whole_lines text = whole_behind [] text

-- a text begins with this line, and this stands after its end
pub record IsFirst (text line rest : List ℕ) : Type 0 where
  pub line_is : is_text line ≡ true
  pub lines : whole_lines text ≡ line ∷ whole_lines rest
  pub shorter : length rest < length text
