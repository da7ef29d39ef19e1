-- Quotients by their products: what floor and ceiling of n / e say of q * e, and that this says which number q is.
use Rattle.std.proofs.Common.{◌≡◌, ℕ, ◌+◌, ◌*◌, ◌/◌, ◌<◌, ◌≤◌, arith}
use Rattle.std.proofs.Math.Nat.{lt_of_mul-lt-mul_right}
use Rattle.std.proofs.lemmas.Grind.{div_ceil_times}
use Rattle.std.specs.Int.{div_ceil}

-- q is n / e rounded down
pub record IsFloor (n e q : ℕ) : Type 0 where
  pub within : q * e ≤ n
  pub next : n < q * e + e

-- q is n / e rounded up
pub record IsCeil (n e q : ℕ) : Type 0 where
  pub enough : n ≤ q * e
  pub least : q * e < n + e

pub floor_is : (n e : ℕ) → 1 ≤ e → IsFloor n e (n / e)
floor_is n e some = record { within = omega arith; next = omega arith }

pub ceil_is : (n e : ℕ) → 1 ≤ e → IsCeil n e (div_ceil n e)
ceil_is n e some = let both = div_ceil_times n e some in record { enough = both.0; least = both.1 }

pub floor_only : {n e q r : ℕ} → IsFloor n e q → IsFloor n e r → q ≡ r
floor_only {n} {e} {q} {r} a b =
    let up : q < r + 1 = lt_of_mul-lt-mul_right e (omega arith) in
    let down : r < q + 1 = lt_of_mul-lt-mul_right e (omega arith) in
    omega arith

pub ceil_only : {n e q r : ℕ} → IsCeil n e q → IsCeil n e r → q ≡ r
ceil_only {n} {e} {q} {r} a b =
    let up : q < r + 1 = lt_of_mul-lt-mul_right e (omega arith) in
    let down : r < q + 1 = lt_of_mul-lt-mul_right e (omega arith) in
    omega arith
