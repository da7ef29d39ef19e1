use Rattle.std.proofs.Common.{◌≡◌, ◌++◌, drop}
use Rattle.pf_arguments.specs.Mistakes.Hints.{without_blanks}
use Rattle.pf_arguments.proofs.mistakes.lists.without_blanks.Given as goal

-- the bytes so far, and those that are left, are all
abbrev pub invariant-loop-byte : goal.invariant-loop-byte
invariant-loop-byte l = l.bare.items ++ without_blanks (drop l.byte-index l.bytes) ≡ without_blanks l.bytes
