-- A weight that is not refused is a share of its base, exactly.
use Rattle.std.proofs.Common.{◌≡◌, ℕ, ◌*◌, ◌/◌, ◌%◌, ◌≤◌, None, arith, ap}
use Rattle.std.proofs.Math.Nat.{mul-le-mul_right, mul-le-mul_left}
use Rattle.std.proofs.lemmas.Bool.Decides.{nat_tests}
use Rattle.pf_weight.specs.Share.{IsBase, IsShare, share_of}
use Rattle.pf_weight.specs.Weighed.{weight_fault}

module _ (base cost period : ℕ) (of_base : IsBase base) (accepted : weight_fault base cost period ≡ None) where
  some : 1 ≤ cost
  some = grind (arith, nat_tests)

  within : cost ≤ period
  within = grind (arith, nat_tests)

  whole : base % period ≡ 0
  whole = grind (arith, nat_tests)

  parts : period * (base / period) ≡ base
  parts = omega (arith, whole)

  pub weight-share : IsShare (share_of base cost period)
  weight-share =
      let most : cost * (base / period) ≤ period * (base / period) = mul-le-mul_right (base / period) within in
      let least : 1 * (base / period) ≤ cost * (base / period) = mul-le-mul_right (base / period) some in
      let quotient : 1 ≤ base / period = grind (arith, parts, of_base.some) in
      let short : period * 1 ≤ period * (base / period) = mul-le-mul_left period quotient in
      record {
        some = some;
        within = within;
        short = omega (arith, short, parts, of_base.within);
        units_some = omega (arith, least, quotient);
        units_within = omega (arith, most, parts, of_base.within);
      }

  pub weight-exact : (share_of base cost period).units * period ≡ cost * base
  weight-exact = omega (arith, ap (λ x. cost * x) parts)
