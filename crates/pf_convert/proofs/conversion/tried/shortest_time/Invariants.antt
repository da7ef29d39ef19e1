use Rattle.std.proofs.Common.{◌≡◌, ◌≤◌, min, drop}
use Rattle.pf_convert.specs.declared.quantum.TheConstants.{LONGEST_QUANTUM}
use Rattle.pf_convert.specs.Conversion.Series.{shortest_time}
use Rattle.pf_convert.proofs.conversion.tried.shortest_time.Given as goal

abbrev pub invariant-loop-task : goal.invariant-loop-task
invariant-loop-task l = record {
  least : min l.shortest (shortest_time (drop l.task-index l.tasks)) ≡ shortest_time l.tasks;
  short : l.shortest ≤ LONGEST_QUANTUM;
}
