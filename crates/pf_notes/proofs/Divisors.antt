-- Divisors of a number, the greatest of them by their quotients.
use Rattle.std.proofs.Common.{◌≡◌, ℕ, zero, suc, ◌+◌, ◌*◌, ◌/◌, ◌%◌, ◌<◌, ◌≤◌, ◌==◌, ◌&&◌, Bool, true, false, cond, refl, sym, ap, ap₂, ◌∙◌, ⊎_elim, arith}
use Rattle.std.proofs.lemmas.Bool.{cases_eq, cases_lt, cond-true, cond-false, eq-eqb, eqb-true}
use Rattle.std.proofs.lemmas.Nat.{le-div}
use Rattle.std.proofs.Math.Nat.{div-add-mod, mul_comm, mul-div_cancel_left, mul-le-mul_left, mul-mod_right, zero-mod}
use Rattle.pf_notes.specs.Periods.{divides, divides_both, last_below}

-- Use: the greatest that passes is the last one.
pub greatest_is : (test : ℕ → Bool) (n k : ℕ) → ((j : ℕ) → j < n → test j ≡ true → j ≤ k) → k < n → test k ≡ true → k ≡ last_below test n
greatest_is test zero k most low passes = absurd (omega (arith, low))
greatest_is test (suc n) k most low passes =
    by (test n) refl (λ less. greatest_is test n k (λ j lt p. most j (omega (arith, lt)) p) less passes)
  where
    below : (k n : ℕ) → (k ≡ n → ⊥) → k < suc n → k < n
    below k n other low = ⊎_elim (λ lt. lt) (λ le. absurd (other (omega (arith, le, low)))) (cases_lt k n)

    by : (b : Bool) → test n ≡ b → (k < n → k ≡ last_below test n) → k ≡ last_below test (suc n)
    by true is more =
        let top : n ≤ k = most n (omega arith) is in
        let same : k ≡ n = omega (arith, top, low) in
        same ∙ sym (cond-true (test n) n (last_below test n) is)
    by false is more = ⊎_elim
        (λ (same : k ≡ n). let never : true ≡ false = sym passes ∙ ap test same ∙ is in cc)
        (λ other. more (below k n other low) ∙ sym (cond-false (test n) n (last_below test n) is))
        (cases_eq k n)

-- Use: none passes.
pub none_is : (test : ℕ → Bool) (n : ℕ) → ((j : ℕ) → j < n → test j ≡ true → j ≤ 0) → 0 ≡ last_below test n
none_is test zero most = refl
none_is test (suc n) most = by (test n) refl (none_is test n (λ j lt p. most j (omega (arith, lt)) p))
  where
    by : (b : Bool) → test n ≡ b → 0 ≡ last_below test n → 0 ≡ last_below test (suc n)
    by true is more =
        let none : n ≤ 0 = most n (omega arith) is in
        let same : 0 ≡ n = omega (arith, none) in
        same ∙ sym (cond-true (test n) n (last_below test n) is)
    by false is more = more ∙ sym (cond-false (test n) n (last_below test n) is)

-- the same by another test
last_same : (p q : ℕ → Bool) (n : ℕ) → ((k : ℕ) → p k ≡ q k) → last_below p n ≡ last_below q n
last_same p q zero same = refl
last_same p q (suc n) same = ap₂ (λ b k. cond b n k) (same n) (last_same p q n same)

-- every number divides 0
divides_zero : (a k : ℕ) → divides_both a 0 k ≡ divides a k
divides_zero a k = by (divides a k) (eq-eqb (0 % k) 0 (zero-mod k))
  where
    by : (b : Bool) → ((0 % k) == 0) ≡ true → (b && ((0 % k) == 0)) ≡ b
    by true is = is
    by false is = refl

-- Use: what divides a, and 0.
pub below_alone : (a n : ℕ) → last_below (divides_both a 0) n ≡ last_below (divides a) n
below_alone a n = last_same (divides_both a 0) (divides a) n (divides_zero a)

left_of : (x y : Bool) → (x && y) ≡ true → x ≡ true
left_of true y h = refl
left_of false y h = h

right_of : (x y : Bool) → (x && y) ≡ true → y ≡ true
right_of true y h = h
right_of false y h = cc

-- a divisor of a, which is at least 1
module _ (a b j : ℕ) (some : 1 ≤ a) (passes : divides_both a b j ≡ true) where
  whole : a % j ≡ 0
  whole = eqb-true (a % j) 0 (left_of (divides a j) (divides b j) passes)

  pub product : j * (a / j) ≡ a
  product = omega (arith, div-add-mod a j, whole)

  pub quotient_some : 1 ≤ a / j
  quotient_some = by (a / j) product
    where
      by : (q : ℕ) → j * q ≡ a → 1 ≤ q
      by zero is = let none : j * 0 ≡ 0 = omega arith in absurd (omega (arith, is, none, some))
      by (suc q) is = omega arith

  -- Use: it is not above the quotient by a number that is not above its own quotient.
  pub under : (other : ℕ) → 1 ≤ other → other ≤ a / j → j ≤ a / other
  under other least within =
      le-div j a other least
      (let more : j * other ≤ j * (a / j) = mul-le-mul_left j within in omega (arith, more, product))

  -- Use: it is found by its quotient.
  found_by : (other : ℕ) → other ≡ a / j → (divides a other && divides b (a / other)) ≡ true
  found_by other is =
      let turned : a ≡ a / j * j = sym product ∙ mul_comm j (a / j) in
      let none : a % other ≡ 0 = ap (λ q. a % q) is ∙ ap (λ n. n % (a / j)) turned ∙ mul-mod_right (a / j) j in
      let back : a / other ≡ j = ap (λ q. a / q) is ∙ ap (λ n. n / (a / j)) turned ∙ mul-div_cancel_left j quotient_some in
      ap₂ (λ x y. x && y) (eq-eqb (a % other) 0 none) (ap (divides b) back ∙ right_of (divides a j) (divides b j) passes)

  -- Use: its quotient is not one that was looked at.
  pub goes_on : (other : ℕ) → other ≤ a / j → (divides a other && divides b (a / other)) ≡ false → other + 1 ≤ a / j
  goes_on other within missed = ⊎_elim
      (λ (same : other ≡ a / j). let never : true ≡ false = sym (found_by other same) ∙ missed in cc)
      (λ apart. ⊎_elim (λ lt. omega (arith, lt)) (λ le. absurd (apart (omega (arith, le, within)))) (cases_lt other (a / j)))
      (cases_eq other (a / j))

-- Use: the quotient by a divisor is one.
pub partner : (a b other : ℕ) → (divides a other && divides b (a / other)) ≡ true → divides_both a b (a / other) ≡ true
partner a b other both =
    let of_a = left_of (divides a other) (divides b (a / other)) both in
    let of_b = right_of (divides a other) (divides b (a / other)) both in
    let whole : a % other ≡ 0 = eqb-true (a % other) 0 of_a in
    let product : a / other * other ≡ a = omega (arith, div-add-mod a other, whole) in
    let back : a % (a / other) ≡ 0 = ap (λ n. n % (a / other)) (sym product) ∙ mul-mod_right (a / other) other in
    ap₂ (λ x y. x && y) (eq-eqb (a % (a / other)) 0 back) of_b
