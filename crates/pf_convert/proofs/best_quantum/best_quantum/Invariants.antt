use Rattle.pf_convert.proofs.Choosing.{IsBestOrNone}
use Rattle.pf_convert.proofs.best_quantum.best_quantum.Given as goal

abbrev pub invariant-loop-next : goal.invariant-loop-next
invariant-loop-next l = IsBestOrNone l.processors l.outcomes l.next l.best
