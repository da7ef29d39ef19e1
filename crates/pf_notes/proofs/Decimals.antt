-- A number cut off to decimals.
use Rattle.std.proofs.Common.{◌≡◌, ℕ, ◌*◌, ◌/◌, ◌^◌, ap, arith}
use Rattle.std.specs.Int.{div_ceil}
use Rattle.pf_text.specs.Columns.Decimals.{cut, up, with_places}

-- so many ten-thousandths are told exactly
exact : (n : ℕ) → div_ceil (n * 10 ^ 4) 10000 ≡ n
exact n = omega arith

-- Use: a quotient in ten-thousandths, cut off, is told by its own four decimals.
pub whole_parts : (a b : ℕ) → up (a * 10000 / b) 10000 4 ≡ cut a b 4
whole_parts a b = ap (with_places 4) (exact (a * 10000 / b))
