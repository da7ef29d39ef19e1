use Rattle.std.proofs.Common.{◌≡◌, map, take}
use Rattle.pf_code.specs.Symbol.{identifier_byte}
use Rattle.pf_code.proofs.tasks.identifier_of.Given as goal

abbrev pub invariant-loop-byte : goal.invariant-loop-byte
invariant-loop-byte l = l.identifier.items ≡ map identifier_byte (take l.byte-index l.name)
