-- A job is done within its bound.
use Rattle.std.proofs.Common.{◌≡◌, ℕ, ◌+◌, ◌-◌, ◌*◌, ◌/◌, ◌<◌, ◌≤◌, arith, ap}
use Rattle.std.specs.Int.{div_ceil}
use Rattle.std.proofs.Math.Nat.{lt_of_mul-lt-mul_right, mul-le-mul_right}
use Rattle.pf_window.specs.Window.{release_of, deadline_of}
use Rattle.pf_window.proofs.Quotients.{ceil_is, floor_is}
use Rattle.pf_code.specs.Laws.{JobsAreWithinBounds}

pub jobs_are_within_bounds : JobsAreWithinBounds
unfolding release_of deadline_of
jobs_are_within_bounds w i s share some released =
    let e : ℕ = w.cost in
    let p : ℕ = w.period in
    let last : ℕ = div_ceil ((i + e) * p) e in
    let more : ℕ = div_ceil (p - 1) e in
    let floor = floor_is ((i - 1) * p) e share.some in
    let ceil = ceil_is ((i + e) * p) e share.some in
    let rest = ceil_is (p - 1) e share.some in
    let next : (i - 1) * p / e + 1 ≤ s = omega (arith, released) in
    let step : ((i - 1) * p / e + 1) * e ≤ s * e = mul-le-mul_right e next in
    let below : (i - 1) * p + 1 ≤ s * e = omega (arith, floor.next, step) in
    let parts : (i + e) * p ≡ (i - 1) * p + p + e * p = omega (arith, ap (λ k. k * p) (let one : i ≡ i - 1 + 1 = omega (arith, some) in one)) in
    let due : last < s + p + more + 1 = lt_of_mul-lt-mul_right e (omega (arith, ceil.least, parts, below, rest.enough, share.some, share.within)) in
    omega (arith, due)
