-- Numbers that are written as fields, and read again.
use Rattle.std.proofs.Common.{◌≡◌, ◌^◌, ◌<◌, ◌==◌, ℕ, true, false, nat_lt, Some, length, ap, arith}
use Rattle.std.specs.Fmt.{decimal}
use Rattle.std.specs.Str.{all_ascii_digits}
use Rattle.std.proofs.lemmas.Bool.Decides.{nat_tests}
use Rattle.std.proofs.lemmas.Fmt.{digits_decimal, digits_value-decimal, length-decimal-le, decimal_nonempty}
use Rattle.std.proofs.lemmas.Str.Parse.{numerals_by_value, tells_all_ascii_digits}
use Rattle.pf_text.specs.Numbers.{number_of}

pub number_again : (n : ℕ) → n < 10 ^ 15 → number_of (decimal n) ≡ Some n
unfolding number_of
number_again n small =
    let own = numerals_by_value (λ ds. all_ascii_digits ds ≡ true) tells_all_ascii_digits in
    let fits : n < 2 ^ 64 = omega (arith, small) in
    let long = length-decimal-le 15 n (omega arith) small fits in
    let some = decimal_nonempty n fits in
    let not_empty : (length (decimal n) == 0) ≡ false = grind (arith, nat_tests, some) in
    let not_long : nat_lt 15 (length (decimal n)) ≡ false = grind (arith, nat_tests, long) in
    rw (not_empty, not_long, digits_decimal own n fits) (ap Some (digits_value-decimal own n fits))
