-- The windows of tasks, a line for each that is drawn.
use Rattle.std.specs.Prelude.{ℕ, ◌+◌, ◌-◌, ◌/◌, min, max, Bool, false, ◌&&◌, ◌||◌, nat_le, nat_lt, if◌then◌else◌, Option, None, Some, List, [], ◌∷◌, ◌++◌, codes, length}
use Rattle.std.specs.Fmt.{decimal}
use Rattle.std.specs.List.{flat_map, range_with_len}
use Rattle.std.specs.Option.{option_map_or}
use Rattle.pf_order.specs.declared.pick.Pick.{Pick}
use Rattle.pf_scenario.specs.Scenario.{Plan}
use Rattle.pf_scenario.specs.declared.event.Numbered.{Numbered}
use Rattle.pf_run.specs.Record.{Slot}
use Rattle.pf_run.specs.Inside.{Joined}
use Rattle.pf_run.specs.Run.{events_in_force}
use Rattle.pf_run.specs.Computed.{run_of}
use Rattle.pf_tally.specs.Figures.{processors_in}
use Rattle.pf_courses.specs.Course.{end_of, is_drawn, leave_slot, window_of}
use Rattle.pf_courses.specs.Windows.{eligible_from, window_end}
use Rattle.pf_courses.specs.declared.quantum.Quantum.{Quantum}
use Rattle.pf_courses.specs.declared.window.Window.{Window}
use Rattle.pf_desk.specs.Desk.{Seen}
use Rattle.pf_vocabulary.specs.declared.names.titles.Titles.{Titles}
use Rattle.pf_vocabulary.specs.NameColumn.Column.{name_heading, with_name}
use Rattle.pf_vocabulary.specs.declared.tasks.task_range.TaskRange.{TaskRange}
use Rattle.pf_courses.specs.Admitted.{admitted_of}
use Rattle.pf_text.specs.Page.{table_text}
use Rattle.pf_windows.specs.declared.slots.Slots.{Slots}

-- the job that subtask i is of, where a job has so many subtasks
abbrev pub job_of : ℕ → ℕ → ℕ
job_of cost i = (i - 1) / cost + 1

abbrev pub quantum_fields : Option Quantum → List (List ℕ)
quantum_fields None = [] ∷ [] ∷ []
quantum_fields (Some q) = decimal q.slot ∷ decimal q.processor ∷ []

abbrev pub window_record : Joined → Window → List (List ℕ)
window_record j w =
    decimal j.task ∷ decimal w.sub ∷ decimal (job_of j.weight.cost w.sub) ∷ decimal (eligible_from j w.release) ∷ decimal w.release
    ∷ decimal w.deadline ∷ decimal w.bit ∷ decimal w.group ∷ quantum_fields w.ran

-- a slot of the window, or its quantum, is one of the slots from `from` on and below `to`
abbrev pub lies_within : ℕ → ℕ → Option ℕ → Window → Bool
lies_within from to leave w =
    nat_lt (max w.release from) (min (window_end leave w) to)
    || option_map_or (λ q. nat_le from q.slot && nat_lt q.slot to) w.ran false

-- a window that is drawn and lies in the slots that are shown
abbrev pub is_shown_of : Slots → ℕ → Option ℕ → Window → Bool
is_shown_of slots end leave w = is_drawn end w && lies_within slots.from slots.to leave w

-- its line
abbrev pub window_records : Slots → Joined → ℕ → Option ℕ → Window → List (List (List ℕ))
window_records slots j end leave w = if is_shown_of slots end leave w then window_record j w ∷ [] else []

-- those of a task that ran on these processors: no subtask is released before its number less one, so those up to the length
-- are enough
abbrev pub records_of_task : Slots → List Slot → List ℕ → List Numbered → Joined → List (List (List ℕ))
records_of_task slots r on xs j =
    flat_map (λ i. window_records slots j (end_of xs j (length r)) (leave_slot xs j) (window_of r on xs j i)) (range_with_len 1 (length r))

-- those of the tasks, with their names
abbrev pub windows_records : Plan → List Slot → List (List (Option Pick)) → List TaskRange → Titles → Slots → List (List (List ℕ))
windows_records s r rows tasks titles slots =
    flat_map (λ j. with_name titles j.task (records_of_task slots r (processors_in rows j.task) (events_in_force s r (length r)) j))
    (admitted_of s r tasks)

abbrev pub windows_heading : List (List ℕ)
windows_heading =
    codes "task" ∷ codes "sub" ∷ codes "job" ∷ codes "eligible" ∷ codes "release" ∷ codes "deadline" ∷ codes "bit" ∷ codes "group"
    ∷ codes "ran" ∷ codes "processor" ∷ []

-- the windows of these tasks, by task number, then by subtask, that lie in the slots from `from` on and below `to`
unfoldable pub windows_text : Seen → List TaskRange → Titles → ℕ → ℕ → List ℕ
windows_text seen tasks titles from to =
    table_text ((windows_heading ++ name_heading titles)
    ∷ windows_records seen.state.plan (run_of seen.state.plan seen.state.now) seen.rows tasks titles
    (record { now = seen.state.now; from = from; to = to }))
