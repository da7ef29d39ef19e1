use Rattle.std.proofs.Common.{◌≡◌, drop}
use Rattle.pf_script.specs.Messages.WordHints.{has_byte}
use Rattle.pf_script.proofs.messages.near.has_byte.Given as goal

-- it is none of those so far
abbrev pub invariant-loop-other : goal.invariant-loop-other
invariant-loop-other l = has_byte l.byte (drop l.other-index l.bytes) ≡ has_byte l.byte l.bytes
