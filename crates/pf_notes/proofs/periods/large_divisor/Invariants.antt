use Rattle.std.proofs.Common.{◌≡◌, ◌≤◌, ◌<◌, ◌+◌, ◌-◌, ◌*◌, ◌/◌, ℕ, true}
use Rattle.pf_notes.specs.Periods.{divides_both}
use Rattle.pf_notes.proofs.periods.large_divisor.Given as goal

-- of each that divides both the quotient is one of those that are left
pub record Left (a b below other : ℕ) : Type 0 where
  pub some : 1 ≤ other
  pub within : other ≤ a + 1
  pub past : a < below * other
  pub each : (j : ℕ) → j < below → divides_both a b j ≡ true → other ≤ a / j

abbrev pub invariant-loop-other : goal.invariant-loop-other
invariant-loop-other l = Left l.a l.b l.below l.other

abbrev pub decreases-loop-other : goal.decreases-loop-other
decreases-loop-other l = l.a + 1 - l.other
