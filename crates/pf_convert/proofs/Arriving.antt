-- Arrivals in time, and the slots of their releases.
use Rattle.std.proofs.Common.{◌≡◌, ℕ, ◌+◌, ◌-◌, ◌*◌, ◌/◌, ◌<◌, ◌≤◌, refl, subst, arith}
use Rattle.std.proofs.Math.Nat.{div-mul-le_self, le_of_mul-le-mul_right}
use Rattle.std.proofs.lemmas.Grind.{div_ceil_times}
use Rattle.std.proofs.lemmas.Nat.{mul-le}
use Rattle.std.specs.Int.{div_ceil}
use Rattle.pf_convert.specs.Arrivals.{AlignedJobsAreDoneInTime, ArrivalsStayApart, ArrivalsWaitLessThanASlot, JobsAreDoneInTime, ReleasesStayApart}
use Rattle.pf_convert.specs.Counting.{IsLeastCover}
use Rattle.pf_convert.specs.Slots.{IsLongestPeriod}
use Rattle.pf_convert.specs.declared.words.arrivals.Arrivals.{Arrivals}
use Rattle.pf_convert.specs.declared.words.arrivals.Arrivals.TheVariants.{Aligned, Any}
use Rattle.pf_convert.proofs.Counting.{cover_of}

-- what is left of a cover without the slots of a period covers what is left of the time
left_over : (q time every p d : ℕ) → time + every ≤ (d + p) * q → p * q ≤ every → time ≤ d * q
left_over q time every p d covers within = omega (arith, covers, within)

apart_by : (q time every p c n : ℕ) → 1 ≤ q → time + every ≤ c * q → p * q ≤ every → IsLeastCover time q n → n + p ≤ c
apart_by q time every p c n some covers within least =
    let fits : p * q ≤ c * q = omega (arith, covers, within) in
    let order : p ≤ c = le_of_mul-le-mul_right {m = p} {n = c} {k = q} fits (omega (arith, some)) in
    let back : c ≡ (c - p) + p = omega (arith, order) in
    let rest : time ≤ (c - p) * q = left_over q time every p (c - p) (subst (λ v. time + every ≤ v * q) back covers) within in
    omega (arith, least.least (c - p) rest, order)

pub stay_apart : ArrivalsStayApart
stay_apart q every time some =
    let all : IsLeastCover (time + every) q (div_ceil (time + every) q) = cover_of (time + every) q (div_ceil (time + every) q) some refl in
    apart_by q time every (every / q) (div_ceil (time + every) q) (div_ceil time q) some all.covers (div-mul-le_self every q)
    (cover_of time q (div_ceil time q) some refl)

less_than_more : (x q time p : ℕ) → x * q < time + q → (x + p) * q < time + (p + 1) * q
less_than_more x q time p h = omega (arith, h)

pub wait_less : ArrivalsWaitLessThanASlot
wait_less q period time some = less_than_more (div_ceil time q) q time period (div_ceil_times time q some).1

-- the slots of the longest period take no longer than what is due
takes_no_longer : (arrivals : Arrivals) (q due longest : ℕ) → IsLongestPeriod arrivals q due longest → longest * q ≤ due
takes_no_longer Aligned q due longest h = h.within
takes_no_longer Any q due longest h = omega (arith, h.within)

period_takes : (q longest period : ℕ) → period ≤ longest → period * q ≤ longest * q
period_takes q longest period le = mul-le period q longest q le (omega arith)

pub releases_apart : ReleasesStayApart
releases_apart arrivals q due every longest period time some within is le =
    let all : IsLeastCover (time + every) q (div_ceil (time + every) q) = cover_of (time + every) q (div_ceil (time + every) q) some refl in
    apart_by q time every period (div_ceil (time + every) q) (div_ceil time q) some all.covers
    (omega (arith, period_takes q longest period le, takes_no_longer arrivals q due longest is, within))
    (cover_of time q (div_ceil time q) some refl)

pub aligned_done : AlignedJobsAreDoneInTime
aligned_done q due longest period slot is le = omega (arith, period_takes q longest period le, takes_no_longer Aligned q due longest is)

pub done : JobsAreDoneInTime
done q due longest period time some is le =
    let next : div_ceil time q * q < time + q = (div_ceil_times time q some).1 in
    let both : (longest + 1) * q ≤ due = is.within in
    omega (arith, next, both, period_takes q longest period le)
