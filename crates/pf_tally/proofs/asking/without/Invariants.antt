use Rattle.std.proofs.Common.{◌≡◌, ◌==◌, not, take, filter}
use Rattle.pf_tally.specs.declared.asking.Asking.{Asking}
use Rattle.pf_tally.proofs.asking.without.Given as goal

abbrev pub invariant-loop-one : goal.invariant-loop-one
invariant-loop-one l = l.others.items ≡ filter (λ (a : Asking). not (a.task == l.task)) (take l.one-index l.asking)
