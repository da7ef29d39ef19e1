-- The tasks of a list that were admitted.
use Rattle.std.specs.Prelude.{List, length, filter, filter_map}
use Rattle.pf_scenario.specs.Scenario.{Plan}
use Rattle.pf_run.specs.Record.{Slot}
use Rattle.pf_run.specs.Inside.{Joined, join_of}
use Rattle.pf_run.specs.Run.{events_in_force}
use Rattle.pf_tally.specs.Lags.{by_task}
use Rattle.pf_vocabulary.specs.Tasks.Listed.{is_listed}
use Rattle.pf_vocabulary.specs.declared.tasks.task_range.TaskRange.{TaskRange}

-- the admitted tasks of a list, by number, after the record r of the scenario
abbrev pub admitted_of : Plan → List Slot → List TaskRange → List Joined
admitted_of s r tasks =
    filter (λ j. is_listed tasks j.task) (by_task (filter_map (join_of s.settings.base) (events_in_force s r (length r))))
