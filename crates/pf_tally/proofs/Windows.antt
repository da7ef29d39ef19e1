-- Later subtasks have later windows.
use Rattle.std.proofs.Common.{◌≡◌, ℕ, ◌+◌, ◌-◌, ◌*◌, ◌<◌, ◌≤◌, nat_le, sym, ◌∙◌, ⊎_elim, arith}
use Rattle.std.proofs.Math.Nat.{lt_of_mul-lt-mul_right, mul-le-mul_right}
use Rattle.std.proofs.lemmas.Bool.{cases_lt, le-leb, lt-leb}
use Rattle.pf_weight.specs.Share.{Share, IsShare}
use Rattle.pf_window.specs.Window.{release_of, deadline_of}
use Rattle.pf_window.proofs.Quotients.{floor_is, ceil_is}

pub releases_rise : (w : Share) (i k : ℕ) → IsShare w → i ≤ k → release_of w i ≤ release_of w k
unfolding release_of
releases_rise w i k share within =
    let first = floor_is ((i - 1) * w.period) w.cost share.some in
    let second = floor_is ((k - 1) * w.period) w.cost share.some in
    let more : (i - 1) * w.period ≤ (k - 1) * w.period = mul-le-mul_right w.period (let z : i - 1 ≤ k - 1 = omega arith in z) in
    let up : release_of w i < release_of w k + 1 = lt_of_mul-lt-mul_right w.cost (omega (arith, first.within, second.next)) in
    omega arith

pub deadlines_rise : (w : Share) (i k : ℕ) → IsShare w → i < k → deadline_of w i < deadline_of w k
unfolding deadline_of
deadlines_rise w i k share below =
    let first = ceil_is (i * w.period) w.cost share.some in
    let second = ceil_is (k * w.period) w.cost share.some in
    let more : (i + 1) * w.period ≤ k * w.period = mul-le-mul_right w.period (let z : i + 1 ≤ k = omega arith in z) in
    lt_of_mul-lt-mul_right w.cost (omega (arith, first.least, second.enough, share.within))

-- no subtask is due before its number
pub deadline_late : (w : Share) (i : ℕ) → IsShare w → i ≤ deadline_of w i
unfolding deadline_of
deadline_late w i share =
    let it = ceil_is (i * w.period) w.cost share.some in
    let more : i * w.cost ≤ i * w.period = grind (arith, share.within) in
    let up : i < deadline_of w i + 1 = lt_of_mul-lt-mul_right w.cost (omega (arith, it.enough, share.some)) in
    omega arith

-- a shifted deadline is reached where the product says so
pub due_by_products : (w : Share) (i shift t : ℕ) → IsShare w → shift ≤ t → nat_le (i * w.period) ((t - shift) * w.cost) ≡ nat_le (deadline_of w i + shift) t
unfolding deadline_of
due_by_products w i shift t share behind =
    let it = ceil_is (i * w.period) w.cost share.some in
    ⊎_elim
    (λ over. let late : t - shift < deadline_of w i = lt_of_mul-lt-mul_right w.cost (omega (arith, it.enough)) in
    lt-leb (i * w.period) ((t - shift) * w.cost) over ∙ sym (lt-leb (deadline_of w i + shift) t (omega arith)))
    (λ under. let due : deadline_of w i < t - shift + 1 = lt_of_mul-lt-mul_right w.cost (omega (arith, it.least)) in
    le-leb (i * w.period) ((t - shift) * w.cost) under ∙ sym (le-leb (deadline_of w i + shift) t (omega arith)))
    (cases_lt ((t - shift) * w.cost) (i * w.period))
