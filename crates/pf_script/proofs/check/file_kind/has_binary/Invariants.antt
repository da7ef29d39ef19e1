use Rattle.std.proofs.Common.{◌≡◌, drop}
use Rattle.std.specs.List.{list_any}
use Rattle.pf_script.specs.Check.Files.{is_binary}
use Rattle.pf_script.proofs.check.file_kind.has_binary.Given as goal

-- none of those so far is
abbrev pub invariant-loop-byte : goal.invariant-loop-byte
invariant-loop-byte l = list_any is_binary (drop l.byte-index l.bytes) ≡ list_any is_binary l.bytes
