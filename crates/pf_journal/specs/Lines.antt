-- What the bytes of a journal stand for. Each line is a gate, a text without LF, and LF. The gate of a line that stands is a blank;
-- after the last one is a shut gate, `#`.
use Rattle.std.specs.Prelude.{ℕ, ◌+◌, ◌-◌, Bool, true, false, not, ◌&&◌, ◌||◌, Option, None, Some, List, [], ◌∷◌, ◌++◌, length, codes, flat_map, nat_eq, nat_le, slice_index, drop, if◌then◌else◌, ◌==◌}
use Rattle.std.specs.List.{list_all, starts_with}
use Rattle.pf_journal.specs.declared.state.State.{State}
use Rattle.pf_journal.specs.declared.state.State.TheVariants.{New, Journal, Damaged, Other}

-- a text that a line can have
abbrev pub is_text : List ℕ → Bool
is_text text = list_all (λ byte. not (byte == 10)) text

-- a line that stands
abbrev pub line_of : List ℕ → List ℕ
line_of text = 32 ∷ (text ++ 10 ∷ [])

abbrev pub lines_of : List (List ℕ) → List ℕ
lines_of texts = flat_map line_of texts

-- the bytes of a journal with these lines
abbrev pub journal_of : List (List ℕ) → List ℕ
journal_of texts = lines_of texts ++ 35 ∷ []

-- the texts of the lines that stand, up to the first gate that is shut and the first line without an end; of a line that has begun,
-- its text so far
abbrev pub texts_from : Option (List ℕ) → List ℕ → List (List ℕ)
texts_from line [] = []
texts_from None (gate ∷ rest) = if gate == 32 then texts_from (Some []) rest else []
texts_from (Some line) (byte ∷ rest) = if byte == 10 then line ∷ texts_from None rest else texts_from (Some (line ++ byte ∷ [])) rest

-- the texts that a file stands for, whatever a crash has left of it
abbrev pub texts_of : List ℕ → List (List ℕ)
texts_of file = texts_from None file

-- the first line of each journal, whose lines are a plan
abbrev pub heading : List ℕ
heading = codes "plan,1"

-- a file in which no record stands yet: it is empty, or what a crash may leave while its heading is written
abbrev pub is_new : List ℕ → Bool
is_new file = nat_le (length file) 1 || (nat_le (length file) 9 && slice_index file 0 == 32)

-- the bytes after the lines that stand
abbrev pub end_of : List ℕ → List ℕ
end_of file = drop (length (lines_of (texts_of file))) file

-- what a crash may leave after these lines: a byte at most; or bytes after a shut gate, no more than those of a batch, or, where no
-- record stands yet, any number of them
abbrev pub is_end : List (List ℕ) → List ℕ → Bool
is_end texts [] = true
is_end texts (gate ∷ []) = true
is_end texts (gate ∷ rest) = gate == 35 && (nat_le (length texts) 1 || nat_le (length rest) 65538)

-- by its heading, where it is not new
abbrev pub state_from : Bool → List ℕ → State
state_from true file = if is_end (texts_of file) (end_of file) then Journal else Damaged
state_from false file = Other

abbrev pub state_of : List ℕ → State
state_of file = if is_new file then New else state_from (starts_with nat_eq file (line_of heading)) file

-- the line at which a file is damaged: the one after those that stand
abbrev pub damaged_record : List ℕ → ℕ
damaged_record file = length (texts_of file) + 1

-- the records that a file stands for: the texts after its heading
abbrev pub records_of : List ℕ → List (List ℕ)
records_of file = if is_new file then [] else drop 1 (texts_of file)

-- the lines of a file as a script, its heading first; of one that is new, nothing
abbrev pub script_of : List ℕ → List ℕ
script_of file = if is_new file then [] else lines_of (texts_of file)

-- the bytes after the gate that ends the lines of a file
abbrev pub torn_size : List ℕ → ℕ
torn_size file = if is_new file then 0 else length file - (length (lines_of (texts_of file)) + 1)

-- the lines that end in these bytes
abbrev pub ends_in : List ℕ → ℕ
ends_in [] = 0
ends_in (byte ∷ bytes) = if byte == 10 then ends_in bytes + 1 else ends_in bytes
