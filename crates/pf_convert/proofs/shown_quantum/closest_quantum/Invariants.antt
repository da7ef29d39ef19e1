use Rattle.pf_convert.proofs.Closing.{IsClosestOfFirst}
use Rattle.pf_convert.proofs.shown_quantum.closest_quantum.Given as goal

abbrev pub invariant-loop-next : goal.invariant-loop-next
invariant-loop-next l = IsClosestOfFirst l.outcomes l.next l.closest
