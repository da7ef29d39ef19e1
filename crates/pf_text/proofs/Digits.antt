-- Texts of ASCII digits, one byte more at a time.
use Rattle.std.proofs.Common.{◌≡◌, ◌≤◌, ℕ, Some, None, rules, tests, true, false, List, length, refl}
use Rattle.std.specs.Prelude.{◌==◌, nat_lt}
use Rattle.std.specs.Str.Parse.{digits_value}
use Rattle.pf_text.specs.Numbers.{number_of}
use Rattle.std.specs.Str.{all_ascii_digits}

-- a number
pub number_of-digits : (bytes : List ℕ) → (length bytes == 0) ≡ false → length bytes ≤ 15 → all_ascii_digits bytes ≡ true
    → number_of bytes ≡ Some (digits_value 10 bytes)
unfolding number_of
number_of-digits bytes some few digits = let short : nat_lt 15 (length bytes) ≡ false = search (rules, tests) in rw (some, short, digits) refl

-- a text with a byte that is no digit
pub number_of-none : (bytes : List ℕ) → (length bytes == 0) ≡ false → length bytes ≤ 15 → all_ascii_digits bytes ≡ false → number_of bytes ≡ None
unfolding number_of
number_of-none bytes some few digits = let short : nat_lt 15 (length bytes) ≡ false = search (rules, tests) in rw (some, short, digits) refl
