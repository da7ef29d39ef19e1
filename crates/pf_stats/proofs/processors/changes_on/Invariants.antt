use Rattle.std.proofs.Common.{◌≡◌, ◌+◌, ◌≤◌, map, drop}
use Rattle.pf_stats.specs.Processors.{changes_behind, changes_on, task_on}
use Rattle.pf_stats.proofs.processors.changes_on.Given as goal

-- the changes so far and those that are left are all
abbrev pub invariant-loop-t : goal.invariant-loop-t
invariant-loop-t l = record {
  all : l.changes + changes_behind l.before (map (task_on l.processor) (drop l.t l.snapshot.rows)) ≡ changes_on l.processor l.snapshot.rows;
  most : l.changes ≤ l.t;
}
