-- Numbers in ASCII digits: their length, their worth, and texts of them, one byte more at a time.
use Rattle.std.proofs.Common.{◌≡◌, ◌∙◌, ◌<◌, ◌≤◌, ◌+◌, ◌^◌, ℕ, zero, suc, Bool, true, false, ◌&&◌, List, [], ◌∷◌, ◌++◌, length, take, get_or, refl, ap, append_assoc, arith, add-one}
use Rattle.std.proofs.Math.Nat.{pow-le-pow_right}
use Rattle.std.specs.Char.{digit_value, is_ascii_digit, is_ascii_whitespace}
use Rattle.std.specs.Fmt.{decimal}
use Rattle.std.specs.Str.{all_ascii_digits}
use Rattle.std.proofs.lemmas.Bool.Decides.{nat_tests}
use Rattle.std.proofs.lemmas.Fmt.{length-decimal-le}
use Rattle.std.proofs.lemmas.Str.{digit_value_digit}
use Rattle.std.proofs.lemmas.Str.Parse.{tells_all_ascii_digits}

-- one byte more
pub digits-more : (bytes : List ℕ) (i : ℕ) → i < length bytes
    → all_ascii_digits (take i bytes) ≡ true → is_ascii_digit (get_or bytes i 0) ≡ true → all_ascii_digits (take (i + 1) bytes) ≡ true
digits-more [] i h a b = absurd (omega arith)
digits-more (c ∷ cs) zero h a b = rw b refl
digits-more (c ∷ cs) (suc i) h a b = rw (add-one (suc i)) (by (is_ascii_digit c) a (λ e. rw (add-one i) at (digits-more cs i (omega arith) e b)))
  where
    by : (d : Bool) → (d && all_ascii_digits (take i cs)) ≡ true → (all_ascii_digits (take i cs) ≡ true → all_ascii_digits (take (suc i) cs) ≡ true)
        → (d && all_ascii_digits (take (suc i) cs)) ≡ true
    by true e more = more e
    by false e more = e

-- a byte that is no digit
pub digits-none : (bytes : List ℕ) (i : ℕ) → i < length bytes → is_ascii_digit (get_or bytes i 0) ≡ false → all_ascii_digits bytes ≡ false
digits-none [] i h b = absurd (omega arith)
digits-none (c ∷ cs) zero h b = rw b refl
digits-none (c ∷ cs) (suc i) h b = by (is_ascii_digit c) (digits-none cs i (omega arith) b)
  where
    by : (d : Bool) → all_ascii_digits cs ≡ false → (d && all_ascii_digits cs) ≡ false
    by true e = e
    by false e = refl

-- powers of ten rise
pub ten-pow : (i j : ℕ) → i ≤ j → 10 ^ i ≤ 10 ^ j
ten-pow i j h = pow-le-pow_right {n = 10} (omega arith) h

-- what a digit is worth
pub digit-is : (c : ℕ) → is_ascii_digit c ≡ true → (digit_value c + 48 ≡ c) × (48 ≤ c) × (c ≤ 57)
digit-is c d =
    let range = (tells_all_ascii_digits.parts c [] (rw d refl)).0 in
    (digit_value_digit c range, omega arith, omega arith)

pub digit_dark : (b : ℕ) → is_ascii_digit b ≡ true → is_ascii_whitespace b ≡ false
digit_dark b digit = grind (arith, nat_tests, digit)

-- a number of 64 bits has at most twenty
pub twenty_digits : (n : ℕ) → n < 2 ^ 64 → length (decimal n) ≤ 20
twenty_digits n fits = length-decimal-le 20 n (omega arith) (omega arith) fits

-- a key that ends with the next one, a number between them, and what follows
pub numbered : (before : List ℕ) (n : ℕ) (key more : List ℕ) → (before ++ (decimal n ++ key)) ++ more ≡ before ++ (decimal n ++ (key ++ more))
numbered before n key more = append_assoc before (decimal n ++ key) more ∙ ap (λ t. before ++ t) (append_assoc (decimal n) key more)
