use Rattle.std.proofs.Common.{◌≡◌, None, take}
use Rattle.std.specs.Prelude.{fold}
use Rattle.pf_tally.specs.Figures.{extended}
use Rattle.pf_tally.proofs.extremes.extremes_of.Given as goal

abbrev pub invariant-loop-value : goal.invariant-loop-value
invariant-loop-value l = l.extremes ≡ fold extended None (take l.value-index l.values)
