use Rattle.std.proofs.Common.{◌≡◌, ◌+◌, ◌≤◌, drop}
use Rattle.pf_stats.specs.Processors.{quanta_on}
use Rattle.pf_stats.proofs.processors.quanta_on.Given as goal

-- the quanta so far and those that are left are all
abbrev pub invariant-loop-t : goal.invariant-loop-t
invariant-loop-t l = record {
  all : l.quanta + quanta_on l.processor (drop l.t l.snapshot.rows) ≡ quanta_on l.processor l.snapshot.rows;
  most : l.quanta ≤ l.t;
}
