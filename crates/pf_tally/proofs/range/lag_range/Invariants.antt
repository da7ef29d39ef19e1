use Rattle.std.proofs.Common.{◌≡◌}
use Rattle.pf_tally.proofs.Ranges.{IsSeen}
use Rattle.pf_tally.proofs.range.lag_range.Given as goal

abbrev pub invariant-loop-slot : goal.invariant-loop-slot
invariant-loop-slot l = IsSeen l.task l.delays l.ran l.last l.slot-index l.seen l.range × (l.received ≡ l.slot-index)
