-- What a remainder of 0 says of products and of other remainders.
use Rattle.std.proofs.Common.{◌≡◌, ℕ, zero, suc, ◌+◌, ◌-◌, ◌*◌, ◌/◌, ◌%◌, ◌<◌, ◌≤◌, ◌∙◌, ap, subst, arith}
use Rattle.std.proofs.Math.Nat.{div-add-mod', dvd_trans, dvd_of_mod-eq-zero, mod-eq-zero_of_dvd, mod-mod_of_dvd, le_of_dvd, lt_of_mul-lt-mul_left}

-- a multiple is the product of its quotient
pub quotient_of : (n a : ℕ) → n % a ≡ 0 → n ≡ a * (n / a)
quotient_of n a e = omega (arith, div-add-mod' n a)

pub divides_on : (n m k : ℕ) → n % m ≡ 0 → m % k ≡ 0 → n % k ≡ 0
divides_on n m k e f =
    mod-eq-zero_of_dvd k (dvd_trans k (dvd_of_mod-eq-zero k f) (dvd_of_mod-eq-zero m e))

-- what divides two numbers divides the remainder of one by the other
pub divides_rest : (n m k : ℕ) → m % k ≡ 0 → n % k ≡ 0 → (n % m) % k ≡ 0
divides_rest n m k e f = mod-mod_of_dvd k n (dvd_of_mod-eq-zero k e) ∙ f

pub multiple_is_no_less : (n m : ℕ) → 1 ≤ n → n % m ≡ 0 → m ≤ n
multiple_is_no_less n m some e = le_of_dvd (omega arith) (dvd_of_mod-eq-zero m e)

-- the quotient of a multiple, less one
pub record IsTurn (n a j : ℕ) : Type 0 where
  pub product : n ≡ a * (j + 1)

pub some_factor : (n a q : ℕ) → 1 ≤ n → n ≡ a * q → 1 ≤ q
some_factor n a zero some e = absurd (omega (arith, e))
some_factor n a (suc q) some e = omega arith

pub turn_of : (n a : ℕ) → 1 ≤ n → n % a ≡ 0 → IsTurn n a (n / a - 1)
turn_of n a some e =
    let product : n ≡ a * (n / a) = quotient_of n a e in
    let quotient : 1 ≤ n / a = some_factor n a (n / a) some product in
    let back : n / a ≡ n / a - 1 + 1 = omega arith in
    record { product = product ∙ ap (λ q. a * q) back }

-- a multiple that is below another comes at an earlier turn
pub earlier_turn : (n a j k : ℕ) → IsTurn n a j → n < a * (k + 1) → j < k
earlier_turn n a j k t below =
    let less : a * (j + 1) < a * (k + 1) = subst (λ v. v < a * (k + 1)) t.product below in
    omega (arith, lt_of_mul-lt-mul_left a less)
