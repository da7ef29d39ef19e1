-- Binary digits and powers of two.
use Rattle.std.proofs.Common.{◌≡◌, ℕ, zero, suc, ◌+◌, ◌-◌, ◌^◌, ◌<◌, ◌≤◌, cond, leb, ◌⊎◌, ap, ◌∙◌, arith, ⊎_elim}
use Rattle.std.proofs.Math.Pow.{pow_mono}
use Rattle.std.proofs.lemmas.Nat.{pow-add}
use Rattle.std.proofs.lemmas.Bool.Decides.{nat_tests}
use Rattle.pf_heap.specs.Digits.{powers_within, digits}

bit : (a k : ℕ) → a ≤ k → 1 ≤ cond (leb a k) 1 0
bit a k h = grind (arith, nat_tests)

bit-le : (a k l : ℕ) → k ≤ l → cond (leb a k) 1 0 ≤ cond (leb a l) 1 0
bit-le a k l h = grind (arith, nat_tests)

within_all : (n m k : ℕ) → n ≤ m + 1 → 2 ^ m ≤ k → n ≤ powers_within n k
within_all zero m k le h = omega arith
within_all (suc n) m k le h =
    let low : n ≤ m = omega arith in
    let one : 2 ^ n ≤ k = omega (arith, pow_mono low) in
    omega (arith, within_all n m k (omega arith) h, bit (2 ^ n) k one)

within-add : (d n k : ℕ) → powers_within n k ≤ powers_within (d + n) k
within-add zero n k = omega (arith, ap (λ m. powers_within m k) (let e : 0 + n ≡ n = omega arith in e))
within-add (suc d) n k =
    let e : suc d + n ≡ suc (d + n) = omega arith in
    omega (arith, within-add d n k, ap (λ m. powers_within m k) e)

within-more : (m n k : ℕ) → m ≤ n → powers_within m k ≤ powers_within n k
within-more m n k le =
    let e : (n - m) + m ≡ n = omega arith in
    omega (arith, within-add (n - m) m k, ap (λ x. powers_within x k) e)

above_exponent : (m : ℕ) → m < 2 ^ m
above_exponent zero = omega arith
above_exponent (suc m) =
    let e : 2 ^ (suc m) ≡ 2 ^ m + 2 ^ m = ap (λ x. 2 ^ x) (let s : suc m ≡ m + 1 = omega arith in s) ∙ (omega (arith, pow-add 2 m 1)) in
    omega (arith, above_exponent m, e)

-- k has more than m digits where 2^m is at most k
pub below-digits : (m k : ℕ) → 2 ^ m ≤ k → m + 1 ≤ digits k
unfolding digits
below-digits m k h =
    omega (arith, above_exponent m, within_all (m + 1) m k (omega arith) h, within-more (m + 1) k k (omega (arith, above_exponent m)))

within-mono : (n k l : ℕ) → k ≤ l → powers_within n k ≤ powers_within n l
within-mono zero k l h = omega arith
within-mono (suc n) k l h = omega (arith, within-mono n k l h, bit-le (2 ^ n) k l h)

-- more keys, more digits
pub digits-mono : (k l : ℕ) → k ≤ l → digits k ≤ digits l
unfolding digits
digits-mono k l h = omega (arith, within-mono k k l h, within-more k l l h)

-- comparisons that were paid for
pub paid-le-digits : (made k : ℕ) → (made ≡ 0) ⊎ (2 ^ made ≤ k) → made ≤ digits k
paid-le-digits made k paid = ⊎_elim (λ h. omega arith) (λ h. omega (arith, below-digits made k h)) paid
