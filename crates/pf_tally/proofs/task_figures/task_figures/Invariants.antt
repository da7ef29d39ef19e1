use Rattle.std.proofs.Common.{◌≡◌, take, map, length}
use Rattle.pf_run.specs.Computed.{run_of}
use Rattle.pf_tally.specs.Figures.{figures_of_task, processors_in}
use Rattle.pf_tally.proofs.task_figures.task_figures.Given as goal

abbrev pub invariant-loop-task : goal.invariant-loop-task
invariant-loop-task l =
    l.figures.items
    ≡ map (λ j. figures_of_task (run_of l.scenario (length l.rows)) (processors_in l.rows j.task) l.run.journal.events.items j) (take l.task-index l.task-items)
