use Rattle.std.proofs.Common.{◌≡◌, take, sum_by}
use Rattle.pf_tally.specs.declared.asking.Asking.{Asking}
use Rattle.pf_tally.proofs.asking.load_of.Given as goal

abbrev pub invariant-loop-one : goal.invariant-loop-one
invariant-loop-one l = l.load ≡ sum_by (λ (a : Asking). a.units) (take l.one-index l.asking)
