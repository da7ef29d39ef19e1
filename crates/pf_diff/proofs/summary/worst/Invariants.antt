use Rattle.std.proofs.Common.{◌≡◌, take}
use Rattle.pf_diff.specs.Summary.{worst_of}
use Rattle.pf_diff.proofs.summary.worst.Given as goal

abbrev pub invariant-loop-one : goal.invariant-loop-one
invariant-loop-one l = l.worst ≡ worst_of (take l.one-index l.figures)
