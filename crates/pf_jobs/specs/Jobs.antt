-- The jobs of the tasks: job k of a task is its subtasks (k - 1) * cost + 1 to k * cost.
use Rattle.std.specs.Prelude.{ℕ, ◌+◌, ◌-◌, ◌*◌, ◌/◌, Bool, ◌||◌, nat_le, if◌then◌else◌, pos, ◌-ℤ◌, Option, None, Some, is_some, List, [], ◌∷◌, ◌++◌, codes, length}
use Rattle.std.specs.Fmt.{decimal, signed_decimal}
use Rattle.std.specs.List.{flat_map, range_with_len, slice_get}
use Rattle.std.specs.Option.{option_map}
use Rattle.pf_scenario.specs.Scenario.{Plan}
use Rattle.pf_scenario.specs.declared.event.Numbered.{Numbered}
use Rattle.pf_run.specs.Record.{Slot}
use Rattle.pf_run.specs.Inside.{Joined}
use Rattle.pf_run.specs.Run.{events_in_force}
use Rattle.pf_run.specs.Computed.{run_of}
use Rattle.pf_tally.specs.Clock.{release_at}
use Rattle.pf_tally.specs.Figures.{last_slot}
use Rattle.pf_tally.specs.Late.{due_at, released_at}
use Rattle.pf_tally.specs.Misses.{due_of, ran_in}
use Rattle.pf_courses.specs.Admitted.{admitted_of}
use Rattle.pf_desk.specs.Desk.{Seen}
use Rattle.pf_vocabulary.specs.declared.names.titles.Titles.{Titles}
use Rattle.pf_vocabulary.specs.NameColumn.Column.{name_heading, with_name}
use Rattle.pf_vocabulary.specs.declared.tasks.task_range.TaskRange.{TaskRange}
use Rattle.pf_tally.specs.declared.held.Held.{Held}
use Rattle.pf_text.specs.Page.{table_text}
use Rattle.pf_jobs.specs.Ran.{NamedRan, Ran}
use Rattle.pf_jobs.specs.declared.job.Job.{Job}

-- the last and the first subtask of job k
abbrev pub last_of : ℕ → ℕ → ℕ
last_of cost k = k * cost

abbrev pub first_of : ℕ → ℕ → ℕ
first_of cost k = last_of cost k + 1 - cost

-- job k of a task, after the record r with the events xs in force: from the release of its first subtask, due when its last
-- one is, finished after the slot in which this runs
abbrev pub job_of : List Slot → List Numbered → Joined → ℕ → Job
job_of r xs j k = record {
  task = j.task;
  number = k;
  release = release_at r xs j (first_of j.weight.cost k);
  deadline = due_of r xs j (last_of j.weight.cost k);
  finish = option_map (λ t. t + 1) (ran_in r j (last_of j.weight.cost k));
}

-- it is finished, or due by the task's end
abbrev pub is_told : ℕ → Job → Bool
is_told end job = is_some job.finish || nat_le job.deadline end

-- how long it took from its release, 0 or less where it worked ahead of it, and how long it was overdue
abbrev pub finish_fields : Job → Option ℕ → List (List ℕ)
finish_fields job None = [] ∷ [] ∷ [] ∷ []
finish_fields job (Some t) = decimal t ∷ signed_decimal (pos t -ℤ pos job.release) ∷ decimal (t - job.deadline) ∷ []

abbrev pub job_record : Job → List (List ℕ)
job_record job =
    decimal job.task ∷ decimal job.number ∷ decimal job.release ∷ decimal job.deadline ∷ finish_fields job job.finish

-- a line of a job that is told of
abbrev pub job_records : ℕ → Job → List (List (List ℕ))
job_records end job = if is_told end job then job_record job ∷ [] else []

-- those of a task: no job is finished or due before there were as many slots as it has subtasks
abbrev pub records_of_task : List Slot → List Numbered → Joined → List (List (List ℕ))
records_of_task r xs j =
    flat_map (λ k. job_records (last_slot xs j (length r)) (job_of r xs j k)) (range_with_len 1 (length r / j.weight.cost))

abbrev pub jobs_heading : List (List ℕ)
jobs_heading =
    codes "task" ∷ codes "job" ∷ codes "release" ∷ codes "deadline" ∷ codes "finish" ∷ codes "response" ∷ codes "tardiness" ∷ []

-- those of the tasks, with their names
abbrev pub jobs_records : Plan → List Slot → List TaskRange → Titles → List (List (List ℕ))
jobs_records s r tasks titles =
    flat_map (λ j. with_name titles j.task (records_of_task r (events_in_force s r (length r)) j)) (admitted_of s r tasks)

-- the jobs of these tasks, by task number, then by their own
unfoldable pub jobs_text : Seen → List TaskRange → Titles → List ℕ
jobs_text seen tasks titles =
    table_text ((jobs_heading ++ name_heading titles)
    ∷ jobs_records seen.state.plan (run_of seen.state.plan seen.state.now) tasks titles)

-- the same by what is told of a task
abbrev pub job_count : Ran → ℕ
job_count ran = ran.slot_count / ran.task.weight.cost

abbrev pub job_with : Joined → List ℕ → List Held → ℕ → Job
job_with j slots held k = record {
  task = j.task;
  number = k;
  release = released_at j held (first_of j.weight.cost k);
  deadline = due_at j held (last_of j.weight.cost k);
  finish = option_map (λ t. t + 1) (slice_get slots (last_of j.weight.cost k - 1));
}

abbrev pub job_by : Ran → ℕ → Job
job_by ran k = job_with ran.task ran.slots ran.held k

-- the lines of the jobs after the first k
abbrev pub records_behind_job : Ran → ℕ → List (List (List ℕ))
records_behind_job ran k = flat_map (λ i. job_records ran.end (job_by ran i)) (range_with_len (k + 1) (job_count ran - k))

-- the same with the name of the task
abbrev pub named_behind_job : NamedRan → ℕ → List (List (List ℕ))
named_behind_job x k = with_name x.titles x.ran.task.task (records_behind_job x.ran k)
