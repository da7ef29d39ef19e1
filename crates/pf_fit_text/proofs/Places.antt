-- Numbers with four decimals.
use Rattle.std.proofs.Common.{◌≡◌, ℕ, ◌+◌, ◌*◌, ◌/◌, ◌%◌, min, ap, arith}
use Rattle.std.specs.Int.{div_ceil}
use Rattle.pf_text.specs.Columns.Decimals.{up, with_places}

-- a whole number of parts takes as many
whole : (parts : ℕ) → div_ceil (parts * 10000) 10000 ≡ parts
whole parts = omega arith

-- Use: parts of 1/10000.
pub four_places : (parts : ℕ) → up parts 10000 4 ≡ with_places 4 parts
four_places parts = ap (with_places 4) (whole parts)
