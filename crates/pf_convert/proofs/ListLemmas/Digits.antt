-- Texts of ASCII digits, one byte more at a time.
use Rattle.std.proofs.Common.{◌≡◌, ◌≤◌, ℕ, Some, None, rules, tests, true, false, List, length, refl}
use Rattle.std.specs.Prelude.{◌==◌, nat_lt}
use Rattle.std.specs.Str.Parse.{digits_value}
use Rattle.pf_convert.specs.List.Times.{few_digits}
use Rattle.std.specs.Str.{all_ascii_digits}

-- a number field
pub few_digits-digits : (bytes : List ℕ) → (length bytes == 0) ≡ false → length bytes ≤ 9 → all_ascii_digits bytes ≡ true
    → few_digits bytes ≡ Some (digits_value 10 bytes)
unfolding few_digits
few_digits-digits bytes some few digits = let short : nat_lt 9 (length bytes) ≡ false = search (rules, tests) in rw (some, short, digits) refl

-- a field with a byte that is no digit
pub few_digits-none : (bytes : List ℕ) → (length bytes == 0) ≡ false → length bytes ≤ 9 → all_ascii_digits bytes ≡ false → few_digits bytes ≡ None
unfolding few_digits
few_digits-none bytes some few digits = let short : nat_lt 9 (length bytes) ≡ false = search (rules, tests) in rw (some, short, digits) refl
