-- Bits and group deadlines tell the reach.
use Rattle.std.proofs.Common.{◌≡◌, ℕ, zero, suc, ◌+◌, ◌-◌, ◌*◌, ◌/◌, ◌<◌, ◌≤◌, false, arith, ap, sym, subst, ⊎_elim}
use Rattle.std.proofs.Math.Nat.{lt_of_mul-lt-mul_right}
use Rattle.std.proofs.lemmas.Bool.{cases_lt, leb-true, le-leb, both_ways}
use Rattle.std.specs.Int.{div_ceil}
use Rattle.pf_weight.specs.Share.{Share, IsShare, is_heavy}
use Rattle.pf_window.specs.Window.{deadline_of, bit_of}
use Rattle.pf_window.specs.Group.{group_from, group_of}
use Rattle.pf_window.proofs.Quotients.{IsCeil, floor_is, ceil_is, ceil_only}
use Rattle.pf_window.proofs.Groups.{group_of_part}
use Rattle.pf_laws.specs.Reach.Reach.{WindowsReach}
use Rattle.pf_laws.specs.Reach.Laws.{GroupDeadlinesEndReach}
use Rattle.pf_laws.proofs.ReachLemmas.Lacks.{lack_is, group_from_reach, reach_from_group}

module _ (w : Share) (share : IsShare w) (i : ℕ) where
  due_is : IsCeil (i * w.period) w.cost (deadline_of w i)
  unfolding deadline_of
  due_is = ceil_is (i * w.period) w.cost share.some

  pub bit-at_most : bit_of w i ≤ 1
  unfolding deadline_of bit_of
  bit-at_most =
      let down = floor_is (i * w.period) w.cost share.some in
      let near : deadline_of w i < i * w.period / w.cost + 2 =
      lt_of_mul-lt-mul_right w.cost (omega (arith, due_is.least, down.next)) in
      omega (arith, near)

  -- the bit is 1 where the quantum ends inside the last slot of its window

  bit_from_reach : WindowsReach w i 0 → bit_of w i ≡ 1
  unfolding deadline_of bit_of
  bit_from_reach inner =
      let down = floor_is (i * w.period) w.cost share.some in
      let above : i * w.period / w.cost < deadline_of w i =
      lt_of_mul-lt-mul_right w.cost (omega (arith, down.within, inner)) in
      omega (arith, above, bit-at_most)

  pub reach_from_bit : bit_of w i ≡ 1 → WindowsReach w i 0
  unfolding deadline_of bit_of
  reach_from_bit one =
      let down = floor_is (i * w.period) w.cost share.some in
      let up : deadline_of w i ≡ i * w.period / w.cost + 1 = omega (arith, one) in
      omega (arith, down.next, ap (λ x. x * w.cost) up)

  -- n slots of the task are at most n quanta
  slow : (n : ℕ) → n * w.cost ≤ n * w.period
  slow zero = omega arith
  slow (suc n) = omega (arith, slow n, share.within)

  -- who reaches any slot reaches the deadline
  pub reach_bit : (n : ℕ) → WindowsReach w i n → bit_of w i ≡ 1
  reach_bit n far = bit_from_reach (omega (arith, far, slow n))

  -- a weight of 1 has no bit 1
  bit-part : bit_of w i ≡ 1 → w.cost < w.period
  bit-part one = ⊎_elim (λ lt. lt) whole (cases_lt w.cost w.period) where
    whole : w.period ≤ w.cost → w.cost < w.period
    whole ge =
        let same : w.cost ≡ w.period = omega (arith, ge, share.within) in
        let due : deadline_of w i * w.cost ≡ deadline_of w i * w.period = ap (λ x. deadline_of w i * x) same in
        let above : i < deadline_of w i = lt_of_mul-lt-mul_right w.period (omega (arith, reach_from_bit one, due)) in
        let below : deadline_of w i < i + 1 = lt_of_mul-lt-mul_right w.period (omega (arith, due_is.least, due, same)) in
        absurd (omega (arith, above, below))

  -- only a heavy task reaches past the deadline
  pub reach_heavy : (n : ℕ) → WindowsReach w i (suc n) → w.period ≤ 2 * w.cost
  reach_heavy n far = ⊎_elim
      (λ (light : 2 * w.cost < w.period). absurd (omega (arith, far, due_is.least, slow n, light))) (λ ge. ge)
      (cases_lt (2 * w.cost) w.period)

  -- a heavy task with the bit 1 reaches the slots below its group deadline
  module _ (heavy : w.period ≤ 2 * w.cost) (one : bit_of w i ≡ 1) where
    abbrev lack_of : ℕ
    lack_of = w.period - w.cost

    abbrev lacked : ℕ
    lacked = deadline_of w i - i

    lacked-plus : deadline_of w i ≡ lacked + i
    lacked-plus =
        let real : 1 ≤ w.period = omega (arith, share.some, share.within) in
        let less : i < deadline_of w i + 1 =
        lt_of_mul-lt-mul_right w.period (omega (arith, due_is.enough, slow (deadline_of w i), real)) in
        omega (arith, less)

    lack-plus : lack_of + w.cost ≡ w.period
    lack-plus = omega (arith, bit-part one)

    group_is : IsCeil (lacked * w.period) lack_of (group_from w (deadline_of w i))
    group_is =
        let first : div_ceil (deadline_of w i * lack_of) w.period ≡ lacked =
        ceil_only (ceil_is (deadline_of w i * lack_of) w.period (omega (arith, share.some, share.within)))
        (lack_is w.cost w.period lack_of i (deadline_of w i) lacked lack-plus lacked-plus due_is) in
        subst (λ x. IsCeil (lacked * w.period) lack_of (div_ceil (x * w.period) lack_of)) (sym first)
        (ceil_is (lacked * w.period) lack_of (omega (arith, bit-part one)))

    group-part : group_of w i ≡ group_from w (deadline_of w i)
    group-part = group_of_part w i (le-leb w.period (2 * w.cost) heavy) (bit-part one)

    pub group_reached : (n : ℕ) → WindowsReach w i n → deadline_of w i + n < group_of w i
    group_reached n far =
        omega (
          arith,
          group-part,
          group_from_reach w.cost w.period lack_of i (deadline_of w i) lacked lack-plus lacked-plus due_is
              (group_from w (deadline_of w i)) n group_is far,
        )

    pub reach_to_group : (n : ℕ) → deadline_of w i + n < group_of w i → WindowsReach w i n
    reach_to_group n lt =
        reach_from_group w.cost w.period lack_of i (deadline_of w i) lacked lack-plus lacked-plus due_is
        (group_from w (deadline_of w i)) n group_is (omega (arith, lt, group-part))

  light_reach : is_heavy w ≡ false → (n : ℕ) → WindowsReach w i n → n ≡ 0
  light_reach light zero far = omega arith
  light_reach light (suc n) far =
      absurd (both_ways (is_heavy w) light (le-leb w.period (2 * w.cost) (reach_heavy n far)))

pub group_deadlines_end_reach : GroupDeadlinesEndReach
group_deadlines_end_reach w i share some = record {
  bit = (bit_from_reach w share i, reach_from_bit w share i);
  light = light_reach w share i;
  heavy = λ heavy one n.
      let least = leb-true w.period (2 * w.cost) heavy in
      (group_reached w share i least one n, reach_to_group w share i least one n);
}
