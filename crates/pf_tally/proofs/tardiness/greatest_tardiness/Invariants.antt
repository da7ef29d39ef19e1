use Rattle.std.proofs.Common.{◌≡◌, take}
use Rattle.std.specs.Prelude.{fold, max}
use Rattle.pf_tally.specs.Figures.{tardiness_of}
use Rattle.pf_tally.proofs.tardiness.greatest_tardiness.Given as goal

abbrev pub invariant-loop-miss : goal.invariant-loop-miss
invariant-loop-miss l = l.greatest ≡ fold (λ most miss. max most (tardiness_of miss)) 0 (take l.miss-index l.misses)
