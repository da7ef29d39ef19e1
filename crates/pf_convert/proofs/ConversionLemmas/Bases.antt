-- A base without a prime factor above 7 is above 0.
use Rattle.std.proofs.Common.{ℕ, ◌*◌, ◌^◌, ◌≤◌, sym, subst, arith}
use Rattle.std.proofs.Math.Nat.{one-le-pow, mul-le-mul}
use Rattle.pf_convert.specs.Smooth.{IsSevenSmooth}

product_some : (a b : ℕ) → 1 ≤ a → 1 ≤ b → 1 ≤ a * b
product_some a b p q = mul-le-mul {n₁ = 1} {m₁ = 1} {n₂ = a} {m₂ = b} p q

pub smooth_some : (n : ℕ) → IsSevenSmooth n → 1 ≤ n
smooth_some n s =
    let power : (m k : ℕ) → 1 ≤ m → 1 ≤ m ^ k = λ m k some. one-le-pow k m some in
    subst (λ v. 1 ≤ v) (sym s.product)
    (product_some (2 ^ s.twos * 3 ^ s.threes * 5 ^ s.fives) (7 ^ s.sevens)
    (product_some (2 ^ s.twos * 3 ^ s.threes) (5 ^ s.fives)
    (product_some (2 ^ s.twos) (3 ^ s.threes) (power 2 s.twos (omega arith)) (power 3 s.threes (omega arith)))
    (power 5 s.fives (omega arith)))
    (power 7 s.sevens (omega arith)))
