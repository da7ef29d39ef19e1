use Rattle.std.proofs.Common.{◌≡◌, filter, take}
use Rattle.std.specs.List.{flat_map}
use Rattle.pf_run.specs.Computed.{run_of}
use Rattle.pf_vocabulary.specs.Tasks.Listed.{is_listed}
use Rattle.pf_vocabulary.specs.NameColumn.Column.{with_name}
use Rattle.pf_jobs.specs.Jobs.{named_behind_job, records_of_task}
use Rattle.pf_jobs.proofs.jobs.job_sheets.Given as goal

-- the sheets have the jobs of the tasks so far
abbrev pub invariant-loop-task : goal.invariant-loop-task
invariant-loop-task l =
    flat_map (λ sheet. named_behind_job sheet 0) l.sheets.items
    ≡ flat_map (λ j. with_name l.titles j.task (records_of_task (run_of l.snapshot.state.plan l.snapshot.state.now) l.ledger.events.items j))
    (filter (λ j. is_listed l.tasks j.task) (take l.task-index l.task-items))
