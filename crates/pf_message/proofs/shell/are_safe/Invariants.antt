use Rattle.std.proofs.Common.{◌≡◌, drop}
use Rattle.std.specs.List.{list_all}
use Rattle.pf_message.specs.Shell.{is_safe_byte}
use Rattle.pf_message.proofs.shell.are_safe.Given as goal

-- those so far are safe
abbrev pub invariant-loop-byte : goal.invariant-loop-byte
invariant-loop-byte l = list_all is_safe_byte (drop l.byte-index l.bytes) ≡ list_all is_safe_byte l.bytes
