-- The line of a fault.
use Rattle.std.specs.Prelude.{ℕ, List, ◌++◌, codes}
use Rattle.std.specs.Fmt.{decimal}
use Rattle.pf_vocabulary.specs.declared.fault.fault.Fault.{Fault}
use Rattle.pf_vocabulary.specs.declared.fault.fault.Fault.TheVariants as why
use Rattle.pf_vocabulary.specs.declared.fault.range_fault.RangeFault.{RangeFault}
use Rattle.pf_vocabulary.specs.declared.fault.range_fault.RangeFault.TheVariants as range

-- a number between two texts
abbrev pub numbered_line : List ℕ → ℕ → List ℕ → List ℕ
numbered_line before number behind = before ++ (decimal number ++ behind)

abbrev pub range_line : RangeFault → List ℕ
range_line (range.NotWithin now) = numbered_line (codes "range not within ") now (codes " slots\n")
range_line range.TooLong = codes "range too long\n"

abbrev pub fault_line : Fault → List ℕ
fault_line (why.BadRecord number) = numbered_line (codes "bad record ") number (codes "\n")
fault_line why.TooLong = codes "the script is longer than 16777216 bytes\n"
fault_line (why.BadRange fault) = range_line fault
fault_line why.Read = codes "cannot read the script\n"
fault_line why.Write = codes "cannot write the output\n"
fault_line why.NoMemory = codes "out of memory\n"
fault_line why.NoViewer = codes "no place for a reader\n"
fault_line why.Unread = codes "no place for a reader\n"
fault_line why.GateShut = codes "a gate stayed shut\n"
