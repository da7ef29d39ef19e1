use Rattle.std.proofs.Common.{◌+◌, ◌-◌, ◌<◌, ◌≤◌, length}
use Rattle.std.specs.List.{AllWithin}
use Rattle.pf_convert.proofs.best_base.index_after.Given as goal

abbrev pub invariant-halves : goal.invariant-halves
invariant-halves l =
    (l.from < l.low) × (l.low ≤ l.high) × (l.high ≤ length l.tasks) × AllWithin (λ t. t.period < l.end) l.tasks (l.from + 1) l.low
    × AllWithin (λ t. l.end ≤ t.period) l.tasks l.high (length l.tasks)

abbrev pub decreases-halves : goal.decreases-halves
decreases-halves l = l.high - l.low
