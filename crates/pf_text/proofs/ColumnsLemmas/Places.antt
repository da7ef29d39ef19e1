-- A quotient, one decimal after another.
use Rattle.std.proofs.Common.{◌≡◌, ℕ, ◌+◌, ◌*◌, ◌/◌, ◌%◌, ◌^◌, ◌<◌, ◌≤◌, ◌∙◌, sym, ap, subst, arith, add-one}
use Rattle.std.proofs.Math.Nat.{pow-suc, add-mul-div_right, add-mul-mod_self_right, pow-le-pow_right, mul-le-mul_left, mod-lt, div-lt_iff_lt-mul}
use Rattle.std.proofs.lemmas.Nat.{div-add-mod'}

-- ten times a number, by its quotient and its rest
tenfold : (n b : ℕ) → n * 10 ≡ n % b * 10 + n / b * 10 * b
tenfold n b = omega (arith, div-add-mod' n b)

next_quotient : (n b : ℕ) → 1 ≤ b → n / b * 10 + n % b * 10 / b ≡ n * 10 / b
next_quotient n b some =
    let whole : (n % b * 10 + n / b * 10 * b) / b ≡ n % b * 10 / b + n / b * 10 = add-mul-div_right (n % b * 10) (n / b * 10) (omega (arith, some)) in
    let same : n * 10 / b ≡ n % b * 10 / b + n / b * 10 = subst (λ v. v / b ≡ n % b * 10 / b + n / b * 10) (sym (tenfold n b)) whole in
    omega (arith, same)

next_rest : (n b : ℕ) → n % b * 10 % b ≡ n * 10 % b
next_rest n b = sym (ap (λ v. v % b) (tenfold n b) ∙ add-mul-mod_self_right (n % b * 10) (n / b * 10) b)

one_place_more : (a i : ℕ) → a * 10 ^ i * 10 ≡ a * 10 ^ (i + 1)
one_place_more a i =
    let once : 10 ^ (i + 1) ≡ 10 ^ i * 10 = ap (λ v. 10 ^ v) (add-one i) ∙ pow-suc 10 i in
    let grouped : a * 10 ^ i * 10 ≡ a * (10 ^ i * 10) = omega arith in
    grouped ∙ ap (λ v. a * v) (sym once)

-- what is known of a quotient with so many decimals
pub record IsQuotient (a b places parts rest : ℕ) : Type 0 where
  pub is_parts : parts ≡ a * 10 ^ places / b
  pub is_rest : rest ≡ a * 10 ^ places % b
  pub small : parts + 1 ≤ 2 ^ 100 * 10 ^ places

pub one_more : (a b i parts rest : ℕ) → 1 ≤ b → IsQuotient a b i parts rest → IsQuotient a b (i + 1) (parts * 10 + rest * 10 / b) (rest * 10 % b)
one_more a b i parts rest some q =
    let n = a * 10 ^ i in
    let e : parts * 10 + rest * 10 / b ≡ n / b * 10 + n % b * 10 / b = ap (λ v. v * 10 + rest * 10 / b) q.is_parts ∙ ap (λ v. n / b * 10 + v * 10 / b) q.is_rest in
    let below : rest < b = subst (λ v. v < b) (sym q.is_rest) (mod-lt n (omega (arith, some))) in
    record {
      is_parts = e ∙ next_quotient n b some ∙ ap (λ v. v / b) (one_place_more a i);
      is_rest = ap (λ v. v * 10 % b) q.is_rest ∙ next_rest n b ∙ ap (λ v. v % b) (one_place_more a i);
      small =
          let digit : rest * 10 / b < 10 = (div-lt_iff_lt-mul {k = b} {x = rest * 10} {y = 10} (omega (arith, some))).1 (omega (arith, below)) in
          omega (arith, digit, q.small, one_place_more (2 ^ 100) i);
    }

pub few_digits : (i : ℕ) → i ≤ 6 → 10 ^ i ≤ 1000000
few_digits i few = pow-le-pow_right {n = 10} (omega arith) {i = i} {j = 6} few

pub small_quotient : (a b i parts rest : ℕ) → i ≤ 6 → IsQuotient a b i parts rest → parts < 2 ^ 120
small_quotient a b i parts rest few q =
    let up : 2 ^ 100 * 10 ^ i ≤ 2 ^ 100 * 1000000 = mul-le-mul_left (2 ^ 100) (few_digits i few) in
    omega (arith, up, q.small)
