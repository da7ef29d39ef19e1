use Rattle.std.proofs.Common.{◌≡◌, take, map, length}
use Rattle.pf_run.specs.Computed.{run_of}
use Rattle.pf_tally.specs.Figures.{processors_in}
use Rattle.pf_courses.specs.Course.{track_of}
use Rattle.pf_courses.proofs.courses.courses.Given as goal

abbrev pub invariant-loop-task : goal.invariant-loop-task
invariant-loop-task l =
    l.courses.items
    ≡ map (λ j. track_of (run_of l.scenario (length l.rows)) (processors_in l.rows j.task) l.ledger.events.items j) (take l.task-index l.task-items)
