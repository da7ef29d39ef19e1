-- ASCII is text.
use Rattle.std.proofs.Common.{◌≡◌, ℕ, zero, suc, List, [], ◌∷◌, true, arith}
use Rattle.std.specs.Prelude.{IsAscii, IsUtf8}
use Rattle.std.specs.List.{list_all}
use Rattle.std.proofs.lemmas.Str.{IsUtf8-from_ascii}
use Rattle.pf_message.specs.Nearness.{is_ascii_byte}

ascii_bytes : (bytes : List ℕ) → list_all is_ascii_byte bytes ≡ true → IsAscii bytes
ascii_bytes [] all i = omega arith
ascii_bytes (byte ∷ bytes) all zero = grind (arith, all)
ascii_bytes (byte ∷ bytes) all (suc i) = ascii_bytes bytes (grind (arith, all)) i

pub ascii_text : (bytes : List ℕ) → list_all is_ascii_byte bytes ≡ true → IsUtf8 bytes
ascii_text bytes all = IsUtf8-from_ascii bytes (ascii_bytes bytes all)
