use Rattle.std.proofs.Common.{◌≡◌, ◌*◌, ◌^◌, ◌≤◌, take, sum_by}
use Rattle.pf_tally.specs.declared.figures.Figures.{Figures}
use Rattle.pf_diff.proofs.summary.migrations.Given as goal

abbrev pub invariant-loop-one : goal.invariant-loop-one
invariant-loop-one l = record {
  so_far : l.total ≡ sum_by (λ (f : Figures). f.migrations) (take l.one-index l.figures);
  few : l.total ≤ l.one-index * 2 ^ 64;
}
