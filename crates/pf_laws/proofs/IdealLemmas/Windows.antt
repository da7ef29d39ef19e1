-- The windows of a task follow one another.
use Rattle.std.proofs.Common.{ℕ, suc, ◌+◌, ◌*◌, ◌<◌, ◌≤◌, arith}
use Rattle.std.proofs.Math.Nat.{lt_of_mul-lt-mul_right, mul-le-mul_right}
use Rattle.pf_laws.specs.Ideal.Schedule.{Schedule, IsByReach}
use Rattle.pf_laws.proofs.IdealLemmas.Rising.{rises, climbs}

module _ (s : Schedule) (ok : IsByReach s) where
  pub offset-next : (t i : ℕ) → s.offset t i + s.quantum ≤ s.offset t (suc i)
  offset-next t i = omega (arith, ok.windows.next t i)

  pub offset-rises : (t i j : ℕ) → i ≤ j → s.offset t i ≤ s.offset t j
  offset-rises t i j le = rises (s.offset t) (λ n. omega (arith, offset-next t n)) i j le

  pub window-some : (t i : ℕ) → s.release t i < s.deadline t i
  window-some t i =
      lt_of_mul-lt-mul_right (s.units t)
      (omega (arith, ok.windows.released t i, ok.windows.ends t i, ok.windows.within t, ok.windows.some t))

  pub deadline-next : (t i : ℕ) → s.deadline t i < s.deadline t (suc i)
  deadline-next t i =
      lt_of_mul-lt-mul_right (s.units t)
      (omega (arith, ok.windows.due t i, ok.windows.ends t (suc i), offset-next t i, ok.windows.within t, ok.windows.some t))

  pub deadline-climbs : (t i j : ℕ) → i ≤ j → s.deadline t i + j ≤ s.deadline t j + i
  deadline-climbs t i j le = climbs (s.deadline t) (deadline-next t) i j le

  -- two windows share at most a slot
  pub release-next : (t i : ℕ) → s.deadline t i ≤ s.release t (suc i) + 1
  release-next t i =
      let below : s.deadline t i < s.release t (suc i) + 2 =
      lt_of_mul-lt-mul_right (s.units t)
      (omega (arith, ok.windows.due t i, ok.windows.begins t (suc i), offset-next t i)) in
      omega arith

  -- no later subtask is released sooner
  pub release-rises : (t i j : ℕ) → i ≤ j → s.release t i ≤ s.release t j
  release-rises t i j le = rises (s.release t) (λ n. omega (arith, window-some t n, release-next t n)) i j le

  -- what a task asks for in a slots, and in b
  pub asked-rises : (t a b : ℕ) → a ≤ b → a * s.units t ≤ b * s.units t
  asked-rises t a b le = mul-le-mul_right (s.units t) le
