-- The computed group deadline is the group deadline, and there is one. A task's lack is its period less its cost, of
-- each period; its group deadlines are where the lack comes to a whole quantum.
use Rattle.std.proofs.Common.{◌≡◌, ℕ, zero, suc, ◌+◌, ◌-◌, ◌*◌, ◌/◌, ◌^◌, ◌<◌, ◌≤◌, true, false, eqb, inl, inr, refl, sym, ap, ◌∙◌, subst, arith, ⊎_elim}
use Rattle.std.proofs.Math.Nat.{lt_of_mul-lt-mul_right, mul-le-mul_right, le_antisymm}
use Rattle.std.proofs.lemmas.Bool.{cases_eq, cond-true, cond-false, leb-true, eq-eqb, ne_eqb}
use Rattle.std.proofs.lemmas.Nat.{mul-le}
use Rattle.std.specs.Int.{div_ceil}
use Rattle.pf_weight.specs.Share.{Share, IsShare, is_heavy}
use Rattle.pf_window.specs.Window.{release_of, deadline_of, bit_of}
use Rattle.pf_window.specs.Group.{EndsGroup, IsGroupDeadline, IsFirstGroupDeadline, IsGroupOf, group_from, group_of}
use Rattle.pf_window.proofs.Quotients.{IsFloor, IsCeil, floor_is, ceil_is, floor_only, ceil_only}
use Rattle.pf_window.proofs.Lacks.{lack_from_meet, lack_from_three, lack_below, meet_from_lack, due_from_lack, release_from_lack, lack_after, first_after, first_least}

-- the words of a window, by products

deadline_is : (w : Share) (k : ℕ) → IsShare w → IsCeil (k * w.period) w.cost (deadline_of w k)
unfolding deadline_of
deadline_is w k share = ceil_is (k * w.period) w.cost share.some

release_is : (w : Share) (m : ℕ) → IsShare w → IsFloor (m * w.period) w.cost (release_of w (m + 1))
unfolding release_of
release_is w m share =
    subst (λ x. IsFloor (m * w.period) w.cost (x * w.period / w.cost)) (omega arith)
    (floor_is (m * w.period) w.cost share.some)

-- at bit 0 the quotient leaves no rest
meet_at_bit : (w : Share) (k : ℕ) → IsShare w → bit_of w k ≡ 0 → k * w.period ≡ deadline_of w k * w.cost
unfolding deadline_of bit_of
meet_at_bit w k share bit =
    let n : ℕ = k * w.period in
    let up : IsCeil n w.cost (div_ceil n w.cost) = ceil_is n w.cost share.some in
    let down : IsFloor n w.cost (n / w.cost) = floor_is n w.cost share.some in
    let below : div_ceil n w.cost ≤ n / w.cost = omega (arith, bit) in
    le_antisymm up.enough (omega (arith, mul-le-mul_right w.cost below, down.within))

bit_at_meet : (w : Share) (k t : ℕ) → IsShare w → k * w.period ≡ t * w.cost → (t ≡ deadline_of w k) × (bit_of w k ≡ 0)
unfolding deadline_of bit_of
bit_at_meet w k t share meet =
    let up : IsCeil (k * w.period) w.cost t = record { enough = omega arith; least = omega (arith, share.some) } in
    let down : IsFloor (k * w.period) w.cost t = record { within = omega arith; next = omega (arith, share.some) } in
    let above = ceil_only up (ceil_is (k * w.period) w.cost share.some) in
    let below = floor_only down (floor_is (k * w.period) w.cost share.some) in
    (above, omega (arith, above, below))

-- a task's lack

lack_of : (w : Share) → IsShare w → w.period - w.cost + w.cost ≡ w.period
lack_of w share = omega arith

-- at each group deadline the lack is whole first ..
lack_at_meet : (w : Share) (t k : ℕ) → IsShare w → w.cost < w.period → t ≡ deadline_of w k → bit_of w k ≡ 0 →
    (j : ℕ) × IsCeil (j * w.period) (w.period - w.cost) t
lack_at_meet w t k share part due bit =
    let meet : k * w.period ≡ t * w.cost = rw due (meet_at_bit w k share bit) in
    (t - k, lack_from_meet w.cost w.period (w.period - w.cost) k t (lack_of w share) (omega arith) share.some meet)

lack_at_three : (w : Share) (t m : ℕ) → IsShare w → t + 1 ≡ deadline_of w (m + 1) →
    deadline_of w (m + 1) - release_of w (m + 1) ≡ 3 → (j : ℕ) × IsCeil (j * w.period) (w.period - w.cost) t
lack_at_three w t m share due three =
    let r : ℕ = release_of w (m + 1) in
    let from : IsFloor (m * w.period) w.cost r = release_is w m share in
    let last : deadline_of w (m + 1) ≡ r + 3 = omega arith in
    let to : IsCeil ((m + 1) * w.period) w.cost (r + 3) = subst (λ x. IsCeil ((m + 1) * w.period) w.cost x) last (deadline_is w (m + 1) share) in
    let lack = lack_from_three w.cost w.period (w.period - w.cost) m r (lack_of w share) from to in
    (r - m + 1, subst (λ x. IsCeil ((r - m + 1) * w.period) (w.period - w.cost) x) (omega arith) lack)

lack_at_sub : (w : Share) (t k : ℕ) → IsShare w → w.cost < w.period → 1 ≤ k → EndsGroup w t k →
    (j : ℕ) × IsCeil (j * w.period) (w.period - w.cost) t
lack_at_sub w t (suc m) share part first (inl meets) = lack_at_meet w t (suc m) share part meets.0 meets.1
lack_at_sub w t (suc m) share part first (inr three) =
    let next : suc m ≡ m + 1 = omega arith in
    let due : t + 1 ≡ deadline_of w (m + 1) = three.0 ∙ ap (λ x. deadline_of w x) next in
    let long : deadline_of w (m + 1) - release_of w (m + 1) ≡ 3 = ap (λ x. deadline_of w x - release_of w x) (sym next) ∙ three.1 in
    lack_at_three w t m share due long
lack_at_sub w t zero share part first ends = absurd (omega arith)

-- .. and each slot where it is so is a group deadline
group_at_meet : (w : Share) (t k : ℕ) → IsShare w → 1 ≤ k → k * w.period ≡ t * w.cost → IsGroupDeadline w t
group_at_meet w t k share first meet = record { sub = k; first = first; ends = inl (bit_at_meet w k t share meet) }

group_at_pass : (w : Share) (t m j : ℕ) → IsShare w → is_heavy w ≡ true → t ≡ m + 1 + j →
    j * w.period < t * (w.period - w.cost) → t * (w.period - w.cost) < j * w.period + (w.period - w.cost) →
    IsGroupDeadline w t
group_at_pass w t m j share heavy sum above below =
    let less : w.period - w.cost ≤ w.cost = omega (arith, leb-true w.period (2 * w.cost) heavy) in
    let whole = lack_of w share in
    let due = due_from_lack w.cost w.period (w.period - w.cost) m j t whole less sum above below in
    let from = release_from_lack w.cost w.period (w.period - w.cost) m j t whole less sum above below in
    let ends : t + 1 ≡ deadline_of w (m + 1) = ceil_only due (deadline_is w (m + 1) share) in
    let begins : t - 2 ≡ release_of w (m + 1) = floor_only from.1 (release_is w m share) in
    record { sub = m + 1; first = omega arith; ends = inr (ends, omega (arith, from.0)) }

group_at_lack : (w : Share) (t j : ℕ) → IsShare w → is_heavy w ≡ true → 1 ≤ t →
    IsCeil (j * w.period) (w.period - w.cost) t → IsGroupDeadline w t
group_at_lack w t j share heavy some lack =
    let whole = lack_of w share in
    let below : j < t = lack_below w.cost w.period (w.period - w.cost) j t whole share.some some lack in
    ⊎_elim
    (λ same. group_at_meet w t (t - j) share (omega arith) (meet_from_lack w.cost w.period (w.period - w.cost) (t - j) j t whole (omega arith) same))
    (λ other. group_at_pass w t (t - j - 1) j share heavy (omega arith) (omega arith) lack.least)
    (cases_eq (j * w.period) (t * (w.period - w.cost)))

-- the first group deadline of a task that lacks something
some_due : (w : Share) (i : ℕ) → IsShare w → 1 ≤ i → 1 ≤ deadline_of w i
some_due w i share first =
    let due : IsCeil (i * w.period) w.cost (deadline_of w i) = deadline_is w i share in
    let work : 1 * w.period ≤ i * w.period = mul-le-mul_right w.period first in
    lt_of_mul-lt-mul_right w.cost (omega arith)

first_of_part : (w : Share) (i : ℕ) → IsShare w → is_heavy w ≡ true → w.cost < w.period → 1 ≤ i →
    IsFirstGroupDeadline w i (group_from w (deadline_of w i))
first_of_part w i share heavy part first =
    let p : ℕ = w.period in
    let c : ℕ = w.period - w.cost in
    let d : ℕ = deadline_of w i in
    let n : ℕ = div_ceil (d * c) p in
    let t : ℕ = group_from w d in
    let lack : IsCeil (d * c) p n = ceil_is (d * c) p (omega arith) in
    let ends : IsCeil (n * p) c t = ceil_is (n * p) c (omega arith) in
    let after : d ≤ t = first_after p c d n t (omega arith) lack ends in
    let least = λ (s : ℕ) (other : IsGroupDeadline w s) (past : d ≤ s).
    let at = lack_at_sub w s other.sub share part other.first other.ends in
    let more = lack_after w.cost p c i d at.0 s (lack_of w share) (deadline_is w i share) past at.1 in
    first_least p c d n t at.0 s lack ends more at.1 in
    record {
      group = group_at_lack w t n share heavy (omega (arith, some_due w i share first, after)) ends;
      after = after;
      least = least;
    }

-- the first group deadline of a task that lacks nothing
first_of_whole : (w : Share) (i : ℕ) → IsShare w → w.cost ≡ w.period → 1 ≤ i → IsFirstGroupDeadline w i (deadline_of w i)
first_of_whole w i share full first =
    let meet : i * w.period ≡ i * w.cost = ap (λ x. i * x) (sym full) in
    let at = bit_at_meet w i i share meet in
    record {
      group = record { sub = i; first = first; ends = inl (refl, at.1) };
      after = omega arith;
      least = λ s other past. past;
    }

-- the computed group deadline, by its cases

pub group_of_light : (w : Share) (i : ℕ) → is_heavy w ≡ false → group_of w i ≡ 0
unfolding group_of
group_of_light w i light = cond-false (is_heavy w) _ 0 light

pub group_of_whole : (w : Share) (i : ℕ) → is_heavy w ≡ true → w.cost ≡ w.period → group_of w i ≡ deadline_of w i
unfolding group_of
group_of_whole w i heavy full =
    cond-true (is_heavy w) _ 0 heavy ∙ cond-true (eqb w.cost w.period) (deadline_of w i) _ (eq-eqb w.cost w.period full)

pub group_of_part : (w : Share) (i : ℕ) → is_heavy w ≡ true → w.cost < w.period → group_of w i ≡ group_from w (deadline_of w i)
unfolding group_of
group_of_part w i heavy part =
    cond-true (is_heavy w) _ 0 heavy ∙ cond-false (eqb w.cost w.period) (deadline_of w i) _ (ne_eqb w.cost w.period (λ same. absurd (omega arith)))

heavy_group : (w : Share) (i : ℕ) → IsShare w → 1 ≤ i → is_heavy w ≡ true → IsFirstGroupDeadline w i (group_of w i)
heavy_group w i share first heavy =
    ⊎_elim
    (λ full. rw (group_of_whole w i heavy full) (first_of_whole w i share full first))
    (λ other. let part : w.cost < w.period = omega arith in rw (group_of_part w i heavy part) (first_of_part w i share heavy part first))
    (cases_eq w.cost w.period)

-- the computed number is the group deadline ..
pub group_of-is : (w : Share) (i : ℕ) → IsShare w → 1 ≤ i → IsGroupOf w i (group_of w i)
group_of-is w i share first = record { light = group_of_light w i; heavy = heavy_group w i share first }

-- how large the numbers come, which keeps them within a word

heavy_due : (w : Share) (i : ℕ) → IsShare w → is_heavy w ≡ true → deadline_of w i ≤ 2 * i
heavy_due w i share heavy =
    let due : IsCeil (i * w.period) w.cost (deadline_of w i) = deadline_is w i share in
    let half : w.period * i ≤ 2 * w.cost * i = mul-le-mul_right i (leb-true w.period (2 * w.cost) heavy) in
    let within : deadline_of w i < 2 * i + 1 = lt_of_mul-lt-mul_right w.cost (omega arith) in
    omega arith

pub lack_bound : (w : Share) (i : ℕ) → IsShare w → is_heavy w ≡ true → i ≤ 2 ^ 24 →
    deadline_of w i * (w.period - w.cost) ≤ 2 ^ 54
lack_bound w i share heavy last =
    mul-le (deadline_of w i) (w.period - w.cost) (2 ^ 25) (2 ^ 29) (omega (arith, heavy_due w i share heavy))
    (omega (arith, leb-true w.period (2 * w.cost) heavy))

pub whole_bound : (w : Share) (i : ℕ) → IsShare w → is_heavy w ≡ true → i ≤ 2 ^ 24 →
    div_ceil (deadline_of w i * (w.period - w.cost)) w.period * w.period < 2 ^ 54 + 2 ^ 30
whole_bound w i share heavy last =
    let some : 1 ≤ w.period = omega arith in
    let lack = ceil_is (deadline_of w i * (w.period - w.cost)) w.period some in
    omega (arith, lack.least, lack_bound w i share heavy last)

pub group_bound : (w : Share) (i : ℕ) → IsShare w → is_heavy w ≡ true → w.cost < w.period → i ≤ 2 ^ 24 →
    group_from w (deadline_of w i) ≤ 2 ^ 55
group_bound w i share heavy part last =
    let some : 1 ≤ w.period - w.cost = omega arith in
    let n : ℕ = div_ceil (deadline_of w i * (w.period - w.cost)) w.period in
    let t : ℕ = group_from w (deadline_of w i) in
    let ends : IsCeil (n * w.period) (w.period - w.cost) t = ceil_is (n * w.period) (w.period - w.cost) some in
    let grows : 1 * t ≤ (w.period - w.cost) * t = mul-le-mul_right t some in
    omega (arith, ends.least, whole_bound w i share heavy last)
