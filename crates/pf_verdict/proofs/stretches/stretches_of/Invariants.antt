use Rattle.std.proofs.Common.{◌≡◌, ◌++◌, drop}
use Rattle.pf_verdict.specs.Stretches.{stretches_of}
use Rattle.pf_verdict.proofs.stretches.stretches_of.Given as goal

abbrev pub invariant-loop-k : goal.invariant-loop-k
invariant-loop-k l = l.stretches.items ++ stretches_of (drop l.k l.levels) l.now ≡ stretches_of l.levels l.now
