-- The time of a period, divided into slots again.
use Rattle.std.proofs.Common.{◌≡◌, ℕ, ◌+◌, ◌-◌, ◌*◌, ◌/◌, ◌≤◌, ◌∙◌, ap, subst, arith}
use Rattle.std.proofs.Math.Nat.{div-mul-le_self, mul-div_cancel, mul-le-mul}
use Rattle.pf_convert.specs.declared.quantum.Quantum.{Quantum}
use Rattle.pf_convert.specs.declared.words.arrivals.Arrivals.{Arrivals}
use Rattle.pf_convert.specs.declared.words.arrivals.Arrivals.TheVariants.{Aligned, Any}
use Rattle.pf_convert.specs.Margins.Periods.{with_period}
use Rattle.pf_convert.specs.Margins.Times.{IsTimeOf, TimesGivePeriods, time_of}
use Rattle.pf_convert.specs.Slots.{period_of, slots_of}

gives : (arrivals : Arrivals) (quantum period : ℕ) → 1 ≤ quantum → period_of arrivals quantum (time_of arrivals quantum period) ≡ period
gives Aligned quantum period some = mul-div_cancel period {n = quantum} (omega (arith, some))
gives Any quantum period some =
    let back : (period + 1) * quantum / quantum ≡ period + 1 = mul-div_cancel (period + 1) {n = quantum} (omega (arith, some)) in
    omega (arith, back)

no_less : (quantum period due : ℕ) → period ≤ due / quantum → period * quantum ≤ due
no_less quantum period due le =
    omega (arith, mul-le-mul {n₁ = period} {m₁ = quantum} {n₂ = due / quantum} {m₂ = quantum} le (omega arith), div-mul-le_self due quantum)

least : (arrivals : Arrivals) (quantum period due : ℕ) → 1 ≤ period → period ≤ period_of arrivals quantum due → time_of arrivals quantum period ≤ due
least Aligned quantum period due some le = no_less quantum period due le
least Any quantum period due some le = no_less quantum (period + 1) due (omega (arith, le, some))

pub times_give_periods : TimesGivePeriods
times_give_periods arrivals q period one some = record {
  gives = gives arrivals q.length period one;
  least = λ due le. least arrivals q.length period due some le;
  slots = λ t. ap (with_period (slots_of q arrivals t)) (gives arrivals q.length period one);
}
