-- How many lines a batch takes.
use Rattle.std.specs.Prelude.{ℕ, ◌+◌, Bool, ◌&&◌, List, length, nat_lt, nat_le}
use Rattle.pf_journal.specs.Lines.{lines_of}

-- a batch has at most 1,024 lines, and 64 KiB beside the gate and the end of one
abbrev pub has_room : List (List ℕ) → List ℕ → Bool
has_room batch text = nat_lt (length batch) 1024 && nat_le (length (lines_of batch) + length text + 2) 65538
