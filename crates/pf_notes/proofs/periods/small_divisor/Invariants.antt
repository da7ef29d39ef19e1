use Rattle.std.proofs.Common.{◌≡◌, ◌≤◌, ◌<◌, ◌-◌, ℕ, true}
use Rattle.pf_notes.specs.Periods.{divides_both}
use Rattle.pf_notes.proofs.periods.small_divisor.Given as goal

-- none above k divides both
abbrev pub invariant-loop-k : goal.invariant-loop-k
invariant-loop-k l = ((j : ℕ) → j < l.below → divides_both l.a l.b j ≡ true → j ≤ l.k) × (l.k ≤ l.below - 1)

abbrev pub decreases-loop-k : goal.decreases-loop-k
decreases-loop-k l = l.k
