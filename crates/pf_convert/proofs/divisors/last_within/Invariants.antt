use Rattle.std.proofs.Common.{◌-◌, ◌<◌, ◌≤◌, length, get_or}
use Rattle.pf_convert.proofs.divisors.last_within.Given as goal

abbrev pub invariant-loop-index : goal.invariant-loop-index
invariant-loop-index l = (l.index < length l.divisors) × (get_or l.divisors l.index 0 ≤ l.period)

abbrev pub decreases-loop-index : goal.decreases-loop-index
decreases-loop-index l = length l.divisors - l.index
