use Rattle.std.proofs.Common.{◌≡◌, Option, List, take, length}
use Rattle.std.specs.List.{flat_map}
use Rattle.pf_order.specs.declared.pick.Pick.{Pick}
use Rattle.pf_scenario.specs.Scenario.{Plan}
use Rattle.pf_run.specs.declared.denied.Denied.{Denied}
use Rattle.pf_run.specs.Computed.{run_of}
use Rattle.pf_tally.specs.Misses.{misses_of_task}
use Rattle.pf_tally.specs.WalkedRun.{IsWalkOf}
use Rattle.pf_tally.proofs.walked_run.WalkedRun.misses.Given as goal

abbrev pub invariant-loop-task : goal.invariant-loop-task
invariant-loop-task l = (s : Plan) (rows : List (List (Option Pick))) (denials : List Denied) → IsWalkOf s rows denials l.self →
    l.misses.items ≡ flat_map (misses_of_task (run_of s (length rows)) l.self.journal.events.items) (take l.task-index l.task-items)
