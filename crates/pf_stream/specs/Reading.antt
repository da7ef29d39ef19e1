-- Reading a whole script.
use Rattle.std.specs.Prelude.{ℕ, ◌≡◌, ◌+◌, ◌<◌, ◌≤◌, List, length, Option, Result, Ok, Err, Vec, ⊤}
use Rattle.std.specs.Io.KnownBytes.{Consumes}
use Rattle.std.specs.declared.alloc.Global.{Global}
use Rattle.pf_stream.specs.declared.reading.ReadingFault.{ReadingFault}
use Rattle.pf_stream.specs.declared.reading.ReadingFault.TheVariants.{Read, TooLong, Memory}

-- the greatest length of a script, in bytes
abbrev pub longest_script : ℕ
longest_script = 16777216

-- the answer to an input of these bytes: the bytes themselves, or `TooLong` where they are more than a script may be;
-- a failing reader and running out of memory come in between
abbrev pub ReadsScript : List ℕ → Result (Vec ℕ Global) ReadingFault → Type 0
ReadsScript bytes (Ok text) = (text.items ≡ bytes) × (length bytes ≤ longest_script)
ReadsScript bytes (Err TooLong) = longest_script < length bytes
ReadsScript bytes (Err Read) = ⊤
ReadsScript bytes (Err Memory) = ⊤

-- at most n of the reader's bytes were taken
abbrev pub TakesAtMost : Option (List ℕ) → Option (List ℕ) → ℕ → Type 0
TakesAtMost old new n = (front : List ℕ) × Consumes old new front × (length front ≤ n)

-- the reader failed once where the answer is `Read`, and else not at all
abbrev pub CountsRead : Result (Vec ℕ Global) ReadingFault → ℕ → ℕ → Type 0
CountsRead (Ok text) old new = new ≡ old
CountsRead (Err Read) old new = new ≡ old + 1
CountsRead (Err TooLong) old new = new ≡ old
CountsRead (Err Memory) old new = new ≡ old
