use Rattle.std.proofs.Common.{◌≡◌, Option, List, map, take, length}
use Rattle.pf_order.specs.declared.pick.Pick.{Pick}
use Rattle.pf_scenario.specs.Scenario.{Plan}
use Rattle.pf_run.specs.declared.denied.Denied.{Denied}
use Rattle.pf_run.specs.Computed.{run_of}
use Rattle.pf_tally.specs.Lags.{lag_of}
use Rattle.pf_tally.specs.WalkedRun.{IsWalkOf}
use Rattle.pf_tally.proofs.walked_run.WalkedRun.lags.Given as goal

abbrev pub invariant-loop-task : goal.invariant-loop-task
invariant-loop-task l = (s : Plan) (rows : List (List (Option Pick))) (denials : List Denied) → IsWalkOf s rows denials l.self →
    l.lags.items ≡ map (lag_of (run_of s (length rows)) l.self.journal.events.items) (take l.task-index l.task-items)
