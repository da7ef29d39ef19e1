use Rattle.std.proofs.Common.{◌≡◌, ◌*◌, ◌≤◌, ◌^◌, sum_by, take}
use Rattle.pf_tally.specs.declared.figures.Figures.{Figures}
use Rattle.pf_verdict.proofs.totals.totals_of.Given as goal

-- the sums of the tasks so far, each of which has less than 2^64
abbrev pub invariant-loop-task : goal.invariant-loop-task
invariant-loop-task l = record {
  missed : l.totals.missed ≡ sum_by (λ (f : Figures). f.missed) (take l.task-index l.figures);
  preemptions : l.totals.preemptions ≡ sum_by (λ (f : Figures). f.preemptions) (take l.task-index l.figures);
  migrations : l.totals.migrations ≡ sum_by (λ (f : Figures). f.migrations) (take l.task-index l.figures);
  missed_few : l.totals.missed ≤ l.task-index * 2 ^ 64;
  preemptions_few : l.totals.preemptions ≤ l.task-index * 2 ^ 64;
  migrations_few : l.totals.migrations ≤ l.task-index * 2 ^ 64;
}
