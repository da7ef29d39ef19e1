-- How the bytes taken from a reader add up, where they are known.
use Rattle.std.proofs.Common.{◌≤◌, ◌+◌, ℕ, List, ◌++◌, length, Option, arith, length-append}
use Rattle.std.specs.Io.KnownBytes.{Consumes}
use Rattle.std.proofs.KnownBytes.{Consumes-trans}
use Rattle.pf_stream.specs.Reading.{TakesAtMost}

-- the bytes that two reads took are at most n
pub takes-append : (old mid new : Option (List ℕ)) (xs ys : List ℕ) (n : ℕ) → Consumes old mid xs → Consumes mid new ys → length xs + length ys ≤ n → TakesAtMost old new n
takes-append old mid new xs ys n h k le = (xs ++ ys, Consumes-trans old mid new xs ys h k, omega (arith, length-append xs ys))
