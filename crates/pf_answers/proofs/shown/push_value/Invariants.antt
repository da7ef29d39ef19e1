use Rattle.std.proofs.Common.{◌≡◌, ◌++◌, take}
use Rattle.std.specs.List.{flat_map}
use Rattle.pf_answers.specs.Shown.{unless_end}
use Rattle.pf_answers.proofs.shown.push_value.Given as goal

-- the text has the bytes so far
abbrev pub invariant-loop-byte : goal.invariant-loop-byte
invariant-loop-byte l = l.text.items ≡ l.fn.text.items ++ flat_map unless_end (take l.byte-index l.value)
