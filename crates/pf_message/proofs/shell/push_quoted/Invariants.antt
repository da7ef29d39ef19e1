use Rattle.std.proofs.Common.{◌≡◌, ◌++◌, drop}
use Rattle.std.specs.List.{flat_map}
use Rattle.pf_message.specs.Shell.{quoted_byte}
use Rattle.pf_message.proofs.shell.push_quoted.Given as goal

-- the bytes so far, and those that are left, are all
abbrev pub invariant-loop-byte : goal.invariant-loop-byte
invariant-loop-byte l = l.text.items ++ flat_map quoted_byte (drop l.byte-index l.bytes) ≡ l.fn.text.items ++ flat_map quoted_byte l.bytes
