use Rattle.std.proofs.Common.{◌≡◌, ◌+◌, ◌≤◌, None, drop}
use Rattle.pf_tally.specs.Figures.{migrations_behind}
use Rattle.pf_tally.proofs.moves.migrations.Given as goal

-- those so far and those that are left are all
abbrev pub invariant-loop-processor : goal.invariant-loop-processor
invariant-loop-processor l = record {
  all : l.migrations + migrations_behind l.before (drop l.processor-index l.processors) ≡ migrations_behind None l.processors;
  most : l.migrations ≤ l.processor-index;
}
