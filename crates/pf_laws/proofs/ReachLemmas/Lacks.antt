-- Reach in numbers: a task that gets e of each p slots lacks c, with c + e ≡ p; its subtask i has the deadline d, and by
-- then the task has lacked l = d - i slots.
use Rattle.std.proofs.Common.{◌≡◌, ℕ, ◌+◌, ◌*◌, ◌<◌, arith, ap}
use Rattle.std.proofs.Math.Nat.{lt_of_mul-lt-mul_right, mul-le-mul_right}
use Rattle.pf_window.proofs.Quotients.{IsCeil}

module _ (e p c i d l : ℕ) (whole : c + e ≡ p) (lacks : d ≡ l + i) (due : IsCeil (i * p) e d) where
  times_period : (x : ℕ) → x * p ≡ x * c + x * e
  times_period x = omega (arith, ap (λ y. x * y) whole)

  -- the lack at the deadline is l quanta, rounded up
  pub lack_is : IsCeil (d * c) p l
  lack_is = record {
    enough = omega (arith, due.enough, times_period i, times_period l, times_period d, ap (λ x. x * e) lacks, ap (λ x. x * c) lacks);
    least = omega (arith, due.least, times_period i, times_period l, times_period d, ap (λ x. x * e) lacks, ap (λ x. x * c) lacks, whole);
  }

  -- what reaches n slots past the deadline lacks less than l quanta there, so that the l-th quantum of lack, at g, is later
  pub group_from_reach : (g n : ℕ) → IsCeil (l * p) c g → (i + n) * p < (d + n) * e → d + n < g
  group_from_reach g n group far =
      let lack : (d + n) * c < l * p =
      omega (arith, far, times_period i, times_period n, times_period l, times_period d, ap (λ x. x * e) lacks, ap (λ x. x * c) lacks) in
      lt_of_mul-lt-mul_right c (omega (arith, lack, group.enough))

  pub reach_from_group : (g n : ℕ) → IsCeil (l * p) c g → d + n < g → (i + n) * p < (d + n) * e
  reach_from_group g n group lt =
      let lack : (d + n) * c < l * p = omega (arith, mul-le-mul_right c lt, group.least) in
      omega (arith, lack, times_period i, times_period n, times_period l, times_period d, ap (λ x. x * e) lacks, ap (λ x. x * c) lacks)
