-- A quotient of cost and period is one of units and base.
use Rattle.std.proofs.Common.{◌≡◌, ℕ, suc, ◌+◌, ◌*◌, ◌<◌, ◌≤◌, arith, ap}
use Rattle.std.proofs.Math.Nat.{lt_of_mul-lt-mul_right, mul-le-mul_right}

module _ (units period cost base : ℕ) (exact : units * period ≡ cost * base) (some : 1 ≤ base) (real : 1 ≤ period) where
  pub units-le : (a b : ℕ) → a * cost ≤ b * period → a * units ≤ b * base
  units-le a b le =
      let up : a * (units * period) ≡ a * (cost * base) = ap (λ x. a * x) exact in
      let times : a * cost * base ≤ b * period * base = mul-le-mul_right base le in
      let less : a * units < b * base + 1 = lt_of_mul-lt-mul_right period (omega (arith, up, times, real)) in
      omega (arith, less)

  pub units-lt : (a b : ℕ) → a * cost < b * period → a * units < b * base
  units-lt a b lt =
      let up : a * (units * period) ≡ a * (cost * base) = ap (λ x. a * x) exact in
      let times : suc (a * cost) * base ≤ b * period * base = mul-le-mul_right base lt in
      lt_of_mul-lt-mul_right period (omega (arith, up, times, some))

  pub base-le : (a b : ℕ) → b * period ≤ a * cost → b * base ≤ a * units
  base-le a b le =
      let up : a * (units * period) ≡ a * (cost * base) = ap (λ x. a * x) exact in
      let times : b * period * base ≤ a * cost * base = mul-le-mul_right base le in
      let less : b * base < a * units + 1 = lt_of_mul-lt-mul_right period (omega (arith, up, times, real)) in
      omega (arith, less)

  pub base-lt : (a b : ℕ) → b * period < a * cost → b * base < a * units
  base-lt a b lt =
      let up : a * (units * period) ≡ a * (cost * base) = ap (λ x. a * x) exact in
      let times : suc (b * period) * base ≤ a * cost * base = mul-le-mul_right base lt in
      lt_of_mul-lt-mul_right period (omega (arith, up, times, some))
