use Rattle.std.proofs.Common.{◌≡◌, map}
use Rattle.std.specs.List.{range_with_len}
use Rattle.pf_scenario.specs.Scenario.{past}
use Rattle.pf_run.specs.Record.{in_force}
use Rattle.pf_run.specs.Inside.{count_of}
use Rattle.pf_courses.specs.Built.{count_by_denials}
use Rattle.pf_courses.proofs.counts.counts_in_use.Given as goal

abbrev pub invariant-loop-t : goal.invariant-loop-t
invariant-loop-t l = record {
  count : l.count ≡ count_of l.scenario.settings.processors (in_force l.denials (past l.scenario l.t));
  counts : l.counts.items ≡ map (count_by_denials l.scenario l.denials) (range_with_len 0 l.t);
}
