-- Numbers that were read from fields are short enough to be written and read again.
use Rattle.std.proofs.Common.{◌≡◌, ◌^◌, ◌<◌, ◌≤◌, ◌==◌, ◌&&◌, ℕ, Bool, true, false, nat_lt, nat_le, Some, None, Ok, Err, Option, Result, List, length, ap, arith, refl}
use Rattle.std.specs.Fmt.{decimal}
use Rattle.std.specs.Prelude.{if◌then◌else◌, ok_or, ◌||◌}
use Rattle.std.specs.Str.{all_ascii_digits}
use Rattle.std.specs.Str.Parse.{digits_value}
use Rattle.std.proofs.lemmas.Bool.Decides.{nat_tests}
use Rattle.std.proofs.lemmas.Fmt.{digits_decimal, digits_value-decimal, length-decimal-le, decimal_nonempty}
use Rattle.std.proofs.lemmas.Str.Parse.{digits_value_short, numerals_by_value, tells_all_ascii_digits}
use Rattle.pf_script.specs.Fields.{field, number}
use Rattle.pf_text.specs.Numbers.{number_of}
use Rattle.pf_script.specs.declared.plan.fault.Reason.{Reason}
use Rattle.pf_script.specs.declared.plan.fault.Reason.TheVariants.{Outside}
use Rattle.pf_script.specs.declared.plan.fault.RecordFault.{RecordFault}
use Rattle.pf_script.specs.Plan.Parsing.{◌>>=◌, fault_at, number_or, number_within, within}

-- a written number is read again
pub number_again : (n : ℕ) → n < 10 ^ 15 → number_of (decimal n) ≡ Some n
unfolding number_of
number_again n small =
    let own = numerals_by_value (λ ds. all_ascii_digits ds ≡ true) tells_all_ascii_digits in
    let fits : n < 2 ^ 64 = omega (arith, small) in
    let long = length-decimal-le 15 n (omega arith) small fits in
    let some = decimal_nonempty n fits in
    let not_empty : (length (decimal n) == 0) ≡ false = grind (arith, nat_tests, some) in
    let not_long : nat_lt 15 (length (decimal n)) ≡ false = grind (arith, nat_tests, long) in
    rw (not_empty, not_long, digits_decimal own n fits) (ap Some (digits_value-decimal own n fits))

-- a number of up to 15 digits is small
number_small : (bytes : List ℕ) (n : ℕ) → number_of bytes ≡ Some n → n < 10 ^ 15
unfolding number_of
number_small bytes n e = by (length bytes == 0) (nat_lt 15 (length bytes)) (all_ascii_digits bytes) refl refl e
  where
    by : (empty long digits : Bool) → nat_lt 15 (length bytes) ≡ long → all_ascii_digits bytes ≡ digits
        → (if empty || long then None else if digits then Some (digits_value 10 bytes) else None) ≡ Some n → n < 10 ^ 15
    by true long digits l d e = let bad : None ≡ Some n = e in cc
    by false true digits l d e = let bad : None ≡ Some n = e in cc
    by false false false l d e = let bad : None ≡ Some n = e in cc
    by false false true l d e =
        let own = numerals_by_value (λ ds. all_ascii_digits ds ≡ true) tells_all_ascii_digits in
        let few : length bytes ≤ 15 = grind (arith, nat_tests, l) in
        let small : digits_value 10 bytes < 10 ^ 15 = digits_value_short own bytes 15 d few in
        let is : digits_value 10 bytes ≡ n = cc in
        omega (arith, small, is)

-- Use: both steps gave a value.
pub both : {A B : Type 0} (r : Result A RecordFault) (f : A → Result B RecordFault) (b : B) → (r >>= f) ≡ Ok b → (a : A) × (r ≡ Ok a) × (f a ≡ Ok b)
both (Ok a) f b e = (a, refl, e)
both (Err fault) f b e = let bad : Err fault ≡ Ok b = e in cc

-- Use: there was something.
pub some_from : {A : Type 0} (o : Option A) (fault : RecordFault) (a : A) → ok_or o fault ≡ Ok a → o ≡ Some a
some_from None fault a e = let bad : Err fault ≡ Ok a = e in cc
some_from (Some x) fault a e = let same : x ≡ a = cc in ap Some same

pub or_small : (reason : Reason) (fields : List (List ℕ)) (place n : ℕ) → number_or reason fields place ≡ Ok n → n < 10 ^ 15
unfolding number_or
or_small reason fields place n e = number_small (field fields place) n (some_from (number fields place) (fault_at place reason) n e)

pub within_small : (reason : Reason) (fields : List (List ℕ)) (place most n : ℕ) → number_within reason fields place most ≡ Ok n → (1 ≤ n) × (n ≤ most)
unfolding number_within
within_small reason fields place most n e =
    let two = both (number_or reason fields place) (within place most) n e in
    by two.0 (nat_le 1 two.0) (nat_le two.0 most) refl refl two.2
  where
    by : (m : ℕ) (some few : Bool) → nat_le 1 m ≡ some → nat_le m most ≡ few → (if some && few then Ok m else Err (fault_at place (Outside m most))) ≡ Ok n → (1 ≤ n) × (n ≤ most)
    by m true true some few e = let same : m ≡ n = cc in (grind (arith, nat_tests, some, same), grind (arith, nat_tests, few, same))
    by m true false some few e = cc
    by m false b some few e = cc
