-- Digits after a point are less than a unit.
use Rattle.std.proofs.Common.{ℕ, ◌+◌, ◌*◌, ◌/◌, ◌^◌, ◌<◌, ◌≤◌, arith}
use Rattle.std.proofs.Math.Nat.{div-lt_iff_lt-mul, one-le-pow, mul-le-mul_left}

pub less_than_one : (n p k : ℕ) → n < 10 ^ k → n * 10 ^ p / 10 ^ k < 10 ^ p
less_than_one n p k small =
    let up : 10 ^ p * (n + 1) ≤ 10 ^ p * 10 ^ k = mul-le-mul_left (10 ^ p) (omega (arith, small)) in
    (div-lt_iff_lt-mul {k = 10 ^ k} {x = n * 10 ^ p} {y = 10 ^ p} (omega (arith, one-le-pow k 10 (omega arith)))).1
    (omega (arith, up, one-le-pow p 10 (omega arith)))
