-- A quotient rounded up is the least cover, and one rounded down the most that fits.
use Rattle.std.proofs.Common.{◌≡◌, ℕ, ◌+◌, ◌*◌, ◌/◌, ◌<◌, ◌≤◌, Option, None, Some, false, sym, subst, arith}
use Rattle.std.proofs.Math.Nat.{lt_of_mul-lt-mul_right, div-mul-le_self, div-le_self}
use Rattle.std.proofs.lemmas.Bool.Decides.{nat_tests}
use Rattle.std.proofs.lemmas.Grind.{common_steps, div_ceil_times}
use Rattle.std.proofs.lemmas.Nat.{le-div}
use Rattle.std.specs.Int.{div_ceil}
use Rattle.std.specs.Prelude.{IfSome, nat_lt, unwrap_or}
use Rattle.pf_convert.specs.Counting.{IsLeastCover, IsMostWithin}
use Rattle.pf_convert.specs.Slots.{IsLongestPeriod, IsTimed, due_of, period_of, runs_before_arrival}
use Rattle.pf_convert.specs.declared.timed.Timed.{Timed}
use Rattle.pf_convert.specs.declared.words.arrivals.Arrivals.{Arrivals}
use Rattle.pf_convert.specs.declared.words.arrivals.Arrivals.TheVariants.{Aligned, Any}

no_more : (c time part m : ℕ) → c * part < time + part → time ≤ m * part → c ≤ m
no_more c time part m next enough =
    let less : c * part < (m + 1) * part = omega (arith, next, enough) in
    omega (arith, lt_of_mul-lt-mul_right part less)

covered : (time part : ℕ) → 1 ≤ part → IsLeastCover time part (div_ceil time part)
covered time part some =
    let both = div_ceil_times time part some in
    record { covers = both.0; least = λ m enough. no_more (div_ceil time part) time part m both.1 enough }

pub cover_of : (time part n : ℕ) → 1 ≤ part → n ≡ div_ceil time part → IsLeastCover time part n
cover_of time part n some e = subst (λ m. IsLeastCover time part m) (sym e) (covered time part some)

fitting : (time part : ℕ) → 1 ≤ part → IsMostWithin time part (time / part)
fitting time part some = record {
  within = div-mul-le_self time part;
  most = λ m h. le-div m time part some h;
}

pub within_of : (time part n : ℕ) → 1 ≤ part → n ≡ time / part → IsMostWithin time part n
within_of time part n some e = subst (λ m. IsMostWithin time part m) (sym e) (fitting time part some)

pub longest_of : (arrivals : Arrivals) (quantum due n : ℕ) → 1 ≤ quantum → n ≡ period_of arrivals quantum due → 1 ≤ n → IsLongestPeriod arrivals quantum due n
longest_of Aligned quantum due n some e more = within_of due quantum n some e
longest_of Any quantum due n some e more = within_of due quantum (n + 1) some (omega (arith, e, more))

due_within : (deadline : Option ℕ) (every : ℕ) → IfSome deadline (λ d. (1 ≤ d) × (d ≤ every)) → unwrap_or deadline every ≤ every
due_within None every h = omega arith
due_within (Some d) every h = h.1

-- no period has more slots than what lies between two jobs has nanoseconds
pub period_within : (arrivals : Arrivals) (quantum n : ℕ) (t : Timed) → 1 ≤ quantum → IsTimed t → n ≡ period_of arrivals quantum (due_of t) → n ≤ t.every
period_within Aligned quantum n t some timed e = omega (arith, e, div-le_self (due_of t) quantum, due_within t.deadline t.every timed.due)
period_within Any quantum n t some timed e = omega (arith, e, div-le_self (due_of t) quantum, due_within t.deadline t.every timed.due)

none_early : (early : ℕ) → nat_lt 0 early ≡ false → early ≡ 0
none_early early h = grind (arith, common_steps, nat_tests)

-- where jobs arrive at any time, and no quantum runs before its job arrives, none is early
pub arrived_before : (arrivals : Arrivals) (early : ℕ) → runs_before_arrival arrivals early ≡ false → arrivals ≡ Any → early ≡ 0
arrived_before arrivals early h e = none_early early (subst (λ a. runs_before_arrival a early ≡ false) e h)
