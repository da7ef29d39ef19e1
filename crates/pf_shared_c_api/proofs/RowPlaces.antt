-- The places of rows, one behind the other.
use Rattle.std.proofs.Common.{◌≡◌, ◌<◌, ◌≤◌, ◌+◌, ◌*◌, ◌^◌, ℕ, arith}
use Rattle.std.proofs.lemmas.Nat.{mul-le}

-- Use: there is room for one row more.
pub row_fits : (k n m long : ℕ) → k < n → n * m ≤ long → k * m + m ≤ long
row_fits k n m long less all =
    let up : (k + 1) * m ≤ n * m = mul-le (k + 1) m n m (omega (arith, less)) (omega arith) in
    let one : (k + 1) * m ≡ k * m + m = grind arith in
    omega (arith, up, one, all)

-- Use: how many places there are fits a number of 128 bits.
pub few_places : (count m : ℕ) → count < 2 ^ 64 → m < 2 ^ 32 → count * m < 2 ^ 128
few_places count m few small =
    let up : count * m ≤ 2 ^ 64 * 2 ^ 32 = mul-le count m (2 ^ 64) (2 ^ 32) (omega (arith, few)) (omega (arith, small)) in
    omega (arith, up)
