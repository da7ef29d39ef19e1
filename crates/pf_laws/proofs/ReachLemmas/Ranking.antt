-- The order of PD2 ranks by reach.
use Rattle.std.proofs.Common.{◌≡◌, ℕ, zero, suc, ◌+◌, ◌*◌, ◌<◌, ◌≤◌, ◌==◌, true, false, ◌&&◌, arith, sym, ⊎_elim}
use Rattle.std.proofs.lemmas.Bool.{cases_lt, cases_Bool, leb-true, le-leb, cond-true, cond-false, and_from, eq-eqb, and_left}
use Rattle.std.proofs.lemmas.Bool.Decides.{nat_tests}
use Rattle.pf_weight.specs.Share.{Share, IsShare, is_heavy}
use Rattle.pf_window.specs.Window.{deadline_of, bit_of}
use Rattle.pf_window.specs.Group.{group_of}
use Rattle.pf_order.specs.Priority.{Priority, precedes, priority_cmp}
use Rattle.pf_order.specs.KeyOf.{key_of}
use Rattle.pf_laws.specs.Reach.Reach.{WindowsReach}
use Rattle.pf_laws.specs.Reach.Laws.{OrderRanksByReach}
use Rattle.pf_laws.proofs.ReachLemmas.Reaching.{bit-at_most, reach_from_bit, reach_bit, reach_heavy, group_reached, reach_to_group}

-- what precedes by its bit, or by its group deadline
by_bit : (y x : Priority) → precedes y x ≡ false → y.deadline ≡ x.deadline → x.bit < y.bit → ⊥
unfolding priority_cmp
by_bit y x not due bit = grind (arith, nat_tests)

by_group : (y x : Priority) → precedes y x ≡ false → y.deadline ≡ x.deadline → y.bit ≡ x.bit → x.group < y.group → ⊥
unfolding priority_cmp
by_group y x not due bit group = grind (arith, nat_tests)

-- the group deadline of a key: of a heavy task's with the bit 1, and of a light task's
group_of_heavy : (w : Share) (q i t : ℕ) → is_heavy w ≡ true → bit_of w i ≡ 1 → (key_of w q i t).group ≡ group_of w i + q
group_of_heavy w q i t heavy one =
    cond-true (is_heavy w && bit_of w i == 1) (group_of w i + q) 0
    (and_from (is_heavy w) (bit_of w i == 1) heavy (eq-eqb (bit_of w i) 1 one))

group_of_light : (w : Share) (q i t : ℕ) → is_heavy w ≡ false → (key_of w q i t).group ≡ 0
group_of_light w q i t light =
    cond-false (is_heavy w && bit_of w i == 1) (group_of w i + q) 0 (and_left (is_heavy w) (bit_of w i == 1) light)

module _ (x y : Share) (q r i j t u : ℕ) (share_x : IsShare x) (share_y : IsShare y)
    (not : precedes (key_of y r j u) (key_of x q i t) ≡ false) (due : deadline_of x i + q ≡ deadline_of y j + r) where
  bit_too : bit_of y j ≡ 1 → bit_of x i ≡ 1
  bit_too one = ⊎_elim
      (λ (lt : bit_of x i < 1).
      absurd (by_bit (key_of y r j u) (key_of x q i t) not (sym due) (omega (arith, lt, one))))
      (λ (ge : 1 ≤ bit_of x i). omega (arith, ge, bit-at_most x share_x i)) (cases_lt (bit_of x i) 1)

  group_too : bit_of y j ≡ 1 → (key_of y r j u).group ≤ (key_of x q i t).group
  group_too one = ⊎_elim
      (λ (lt : (key_of x q i t).group < (key_of y r j u).group).
      absurd (by_group (key_of y r j u) (key_of x q i t) not (sym due) (omega (arith, one, bit_too one)) lt))
      (λ ge. ge) (cases_lt (key_of x q i t).group (key_of y r j u).group)

  past_due : (n : ℕ) → WindowsReach y j (suc n) → WindowsReach x i (suc n)
  past_due n far =
      let one : bit_of y j ≡ 1 = reach_bit y share_y j (suc n) far in
      let heavy = reach_heavy y share_y j n far in
      let upto = group_reached y share_y j heavy one (suc n) far in
      let of_y = group_of_heavy y r j u (le-leb y.period (2 * y.cost) heavy) one in
      ⊎_elim
      (λ (h : is_heavy x ≡ true).
      let of_x = group_of_heavy x q i t h (bit_too one) in
      reach_to_group x share_x i (leb-true x.period (2 * x.cost) h) (bit_too one) (suc n)
      (omega (arith, of_x, of_y, group_too one, upto, due)))
      (λ (light : is_heavy x ≡ false). absurd (omega (arith, group_of_light x q i t light, of_y, group_too one, upto, due)))
      (cases_Bool (is_heavy x))

pub order_ranks_by_reach : OrderRanksByReach
order_ranks_by_reach x y q r i j t u zero share_x share_y some_i some_j not due far =
    reach_from_bit x share_x i
    (bit_too x y q r i j t u share_x share_y not due (reach_bit y share_y j 0 far))
order_ranks_by_reach x y q r i j t u (suc n) share_x share_y some_i some_j not due far =
    past_due x y q r i j t u share_x share_y not due n far
