-- Numbers that are written as fields, and read by the grammar of plans.
use Rattle.std.proofs.Common.{◌≡◌, ◌∙◌, ◌^◌, ◌<◌, ◌≤◌, ◌==◌, ℕ, true, false, nat_lt, Some, Ok, List, length, ap, arith, refl}
use Rattle.std.specs.Fmt.{decimal}
use Rattle.std.specs.Str.{all_ascii_digits}
use Rattle.std.proofs.lemmas.Bool.{le-leb}
use Rattle.std.proofs.lemmas.Bool.Decides.{nat_tests}
use Rattle.std.proofs.lemmas.Fmt.{digits_decimal, digits_value-decimal, length-decimal-le, decimal_nonempty}
use Rattle.std.proofs.lemmas.Str.Parse.{numerals_by_value, tells_all_ascii_digits}
use Rattle.pf_script.specs.Fields.{field}
use Rattle.pf_text.specs.Numbers.{number_of}
use Rattle.pf_script.specs.declared.plan.fault.Reason.{Reason}
use Rattle.pf_script.specs.Plan.Parsing.{number_or, number_within}

number_again : (n : ℕ) → n < 10 ^ 15 → number_of (decimal n) ≡ Some n
unfolding number_of
number_again n small =
    let own = numerals_by_value (λ ds. all_ascii_digits ds ≡ true) tells_all_ascii_digits in
    let fits : n < 2 ^ 64 = omega (arith, small) in
    let long = length-decimal-le 15 n (omega arith) small fits in
    let some = decimal_nonempty n fits in
    let not_empty : (length (decimal n) == 0) ≡ false = grind (arith, nat_tests, some) in
    let not_long : nat_lt 15 (length (decimal n)) ≡ false = grind (arith, nat_tests, long) in
    rw (not_empty, not_long, digits_decimal own n fits) (ap Some (digits_value-decimal own n fits))

-- the number of a field that is written as it
pub number_here : (reason : Reason) (fields : List (List ℕ)) (place n : ℕ) → field fields place ≡ decimal n → n < 10 ^ 15
    → number_or reason fields place ≡ Ok n
unfolding number_or
number_here reason fields place n is small =
    let e : number_of (field fields place) ≡ Some n = ap number_of is ∙ number_again n small in
    rw e refl

-- the same within its limits
pub number_inside : (reason : Reason) (fields : List (List ℕ)) (place most n : ℕ) → field fields place ≡ decimal n → n < 10 ^ 15 → 1 ≤ n → n ≤ most
    → number_within reason fields place most ≡ Ok n
unfolding number_within
number_inside reason fields place most n is small some within =
    rw (number_here reason fields place n is small, le-leb 1 n some, le-leb n most within) refl
