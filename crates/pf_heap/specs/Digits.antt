-- Binary digits.
use Rattle.std.specs.Prelude.{ℕ, zero, suc, ◌+◌, ◌^◌, cond, nat_le}

-- how many of the first n powers of two are at most k
abbrev pub powers_within : ℕ → ℕ → ℕ
powers_within zero k = 0
powers_within (suc n) k = powers_within n k + cond (nat_le (2 ^ n) k) 1 0

-- the number of k's binary digits: as many as there are powers of two that are at most k
unfoldable pub digits : ℕ → ℕ
digits k = powers_within k k
