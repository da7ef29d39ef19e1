use Rattle.std.proofs.Common.{◌≡◌, drop}
use Rattle.std.specs.List.{list_all}
use Rattle.pf_message.specs.Nearness.{is_ascii_byte}
use Rattle.pf_message.proofs.nearness.are_ascii.Given as goal

-- those so far are ASCII
abbrev pub invariant-loop-byte : goal.invariant-loop-byte
invariant-loop-byte l = list_all is_ascii_byte (drop l.byte-index l.bytes) ≡ list_all is_ascii_byte l.bytes
