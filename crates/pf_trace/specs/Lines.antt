-- The lines of the events. Each but the first stands after a comma and a line feed.
use Rattle.std.specs.Prelude.{ℕ, ◌+◌, ◌-◌, ◌*◌, ◌%◌, Bool, if◌then◌else◌, ℤ, pos, negsuc, Option, None, Some, List, [], ◌∷◌, ◌++◌, codes}
use Rattle.std.specs.Option.{option_map_or}
use Rattle.pf_admit.specs.Refusals.{denial_code, denial_name}
use Rattle.pf_admit.specs.declared.denial.Denial.{Denial}
use Rattle.pf_courses.specs.Course.{is_drawn}
use Rattle.pf_courses.specs.declared.quantum.Quantum.{Quantum}
use Rattle.pf_courses.specs.declared.window.Window.{Window}
use Rattle.pf_tally.specs.declared.level.Level.{Level}
use Rattle.pf_run.specs.Inside.{Joined}
use Rattle.pf_scenario.specs.Event.{slot_of}
use Rattle.pf_scenario.specs.declared.event.Event.{Event}
use Rattle.pf_scenario.specs.declared.event.Event.TheVariants.{Join, Leave, Delay, Limit}
use Rattle.pf_courses.specs.Windows.{eligible_from, window_end}
use Rattle.pf_trace.specs.Forms.{filled}
use Rattle.pf_trace.specs.Titles.{Called}
use Rattle.pf_trace.specs.declared.moment.Moment.{Moment}

-- the tracks of a task: its quanta and events; its windows, those of odd and of even subtasks
abbrev pub track_of : ℕ → ℕ
track_of task = 100 * task

abbrev pub window_track : ℕ → ℕ → ℕ
window_track task i = 100 * task + 2 - i % 2

-- the names of the tracks of a task
abbrev pub track_name : Called → ℕ → List ℕ
track_name title task =
    filled title (codes ",\n{\"args\":{\"name\":\"$\"},\"name\":\"thread_name\",\"ph\":\"M\",\"pid\":2,\"tid\":#},\n{\"args\":{\"sort_index\":#},\"name\":\"thread_sort_index\",\"ph\":\"M\",\"pid\":2,\"tid\":#}")
    (task ∷ track_of task ∷ track_of task ∷ track_of task ∷ [])

abbrev pub odd_name : Called → ℕ → List ℕ
odd_name title task =
    filled title (codes ",\n{\"args\":{\"name\":\"$, odd windows\"},\"name\":\"thread_name\",\"ph\":\"M\",\"pid\":2,\"tid\":#},\n{\"args\":{\"sort_index\":#},\"name\":\"thread_sort_index\",\"ph\":\"M\",\"pid\":2,\"tid\":#}")
    (task ∷ window_track task 1 ∷ window_track task 1 ∷ window_track task 1 ∷ [])

abbrev pub even_name : Called → ℕ → List ℕ
even_name title task =
    filled title (codes ",\n{\"args\":{\"name\":\"$, even windows\"},\"name\":\"thread_name\",\"ph\":\"M\",\"pid\":2,\"tid\":#},\n{\"args\":{\"sort_index\":#},\"name\":\"thread_sort_index\",\"ph\":\"M\",\"pid\":2,\"tid\":#}")
    (task ∷ window_track task 2 ∷ window_track task 2 ∷ window_track task 2 ∷ [])

-- of a task that was never admitted the first one alone
abbrev pub track_names : Called → ℕ → Bool → List ℕ
track_names title task admitted =
    if admitted then track_name title task ++ odd_name title task ++ even_name title task else track_name title task

-- load and room, at a slot in which one of them changes
abbrev pub units_line : Called → Level → List ℕ
units_line title level =
    filled title (codes ",\n{\"args\":{\"load\":#,\"room\":#},\"name\":\"units\",\"ph\":\"C\",\"pid\":1,\"ts\":@}") (level.load ∷ level.room ∷ level.slot ∷ [])

-- a quantum of subtask i, whose window is from r to d, on the track of processor p
abbrev pub seat_line : Called → ℕ → ℕ → ℕ → ℕ → ℕ → ℕ → List ℕ
seat_line title task i r d p t =
    filled title (codes ",\n{\"args\":{\"sub\":#,\"task\":#,\"window\":[#,#]},\"cat\":\"quantum\",\"dur\":@,\"name\":\"$\",\"ph\":\"X\",\"pid\":1,\"tid\":#,\"ts\":@}")
    (i ∷ task ∷ r ∷ d ∷ 1 ∷ task ∷ (1 + p) ∷ t ∷ [])

-- a window up to its deadline, or to the slot of the task's leave, where that is before
abbrev pub window_line : Called → Joined → Option ℕ → Window → Option Quantum → List ℕ
window_line title j leave w (Some q) =
    filled title (codes ",\n{\"args\":{\"bit\":#,\"eligible\":#,\"group\":#,\"ran\":#},\"cat\":\"window\",\"dur\":@,\"name\":\"%/#\",\"ph\":\"X\",\"pid\":2,\"tid\":#,\"ts\":@}")
    (w.bit ∷ eligible_from j w.release ∷ w.group ∷ q.slot ∷ (window_end leave w - w.release) ∷ j.task ∷ w.sub ∷ window_track j.task w.sub ∷ w.release ∷ [])
window_line title j leave w None =
    filled title (codes ",\n{\"args\":{\"bit\":#,\"eligible\":#,\"group\":#,\"ran\":null},\"cat\":\"window\",\"dur\":@,\"name\":\"%/#\",\"ph\":\"X\",\"pid\":2,\"tid\":#,\"ts\":@}")
    (w.bit ∷ eligible_from j w.release ∷ w.group ∷ (window_end leave w - w.release) ∷ j.task ∷ w.sub ∷ window_track j.task w.sub ∷ w.release ∷ [])

-- that it was missed, at its deadline
abbrev pub missed_line : Called → Joined → Window → Option Quantum → List ℕ
missed_line title j w (Some q) =
    filled title (codes ",\n{\"args\":{\"ran\":#},\"cat\":\"missed\",\"name\":\"missed %/#\",\"ph\":\"i\",\"pid\":2,\"s\":\"t\",\"tid\":#,\"ts\":@}")
    (q.slot ∷ j.task ∷ w.sub ∷ window_track j.task w.sub ∷ w.deadline ∷ [])
missed_line title j w None =
    filled title (codes ",\n{\"args\":{\"ran\":null},\"cat\":\"missed\",\"name\":\"missed %/#\",\"ph\":\"i\",\"pid\":2,\"s\":\"t\",\"tid\":#,\"ts\":@}")
    (j.task ∷ w.sub ∷ window_track j.task w.sub ∷ w.deadline ∷ [])

-- a window that is drawn, and after it that it was missed
abbrev pub window_lines : Called → Joined → ℕ → Option ℕ → Window → List ℕ
window_lines title j end leave w =
    if is_drawn end w then window_line title j leave w w.ran ++ (if w.late then missed_line title j w w.ran else []) else []

-- its quantum, named by its processor
abbrev pub quantum_line : Called → ℕ → Window → Quantum → List ℕ
quantum_line title task w q =
    filled title (codes ",\n{\"args\":{\"sub\":#,\"task\":#,\"window\":[#,#]},\"cat\":\"quantum\",\"dur\":@,\"name\":\"p#\",\"ph\":\"X\",\"pid\":2,\"tid\":#,\"ts\":@}")
    (w.sub ∷ task ∷ w.release ∷ w.deadline ∷ 1 ∷ q.processor ∷ track_of task ∷ q.slot ∷ [])

abbrev pub quantum_lines : Called → ℕ → Window → List ℕ
quantum_lines title task w = option_map_or (quantum_line title task w) w.ran []

-- an event that was taken
abbrev pub taken_line : Called → ℕ → ℕ → Event → List ℕ
taken_line title task id (Join slot task' cost period early) =
    filled title (codes ",\n{\"args\":{\"event\":#},\"cat\":\"event\",\"name\":\"join\",\"ph\":\"i\",\"pid\":2,\"s\":\"t\",\"tid\":#,\"ts\":@}") (id ∷ track_of task ∷ slot ∷ [])
taken_line title task id (Leave slot task') =
    filled title (codes ",\n{\"args\":{\"event\":#},\"cat\":\"event\",\"name\":\"leave\",\"ph\":\"i\",\"pid\":2,\"s\":\"t\",\"tid\":#,\"ts\":@}") (id ∷ track_of task ∷ slot ∷ [])
taken_line title task id (Delay slot task' by) =
    filled title (codes ",\n{\"args\":{\"event\":#},\"cat\":\"event\",\"name\":\"delay by #\",\"ph\":\"i\",\"pid\":2,\"s\":\"t\",\"tid\":#,\"ts\":@}") (id ∷ by ∷ track_of task ∷ slot ∷ [])
taken_line title task id (Limit slot count) = []

abbrev pub kind_text : Event → List ℕ
kind_text (Join slot task cost period early) = codes "join"
kind_text (Leave slot task) = codes "leave"
kind_text (Delay slot task by) = codes "delay"
kind_text (Limit slot count) = codes "limit"

-- a denied one, with the number and the name of the reason
abbrev pub denied_front : Called → ℕ → Event → List ℕ
denied_front title id event = filled title (codes ",\n{\"args\":{\"event\":#},\"cat\":\"denied\",\"name\":\"denied ") (id ∷ []) ++ kind_text event

abbrev pub denied_reason : Called → Denial → List ℕ
denied_reason title denial = filled title (codes ": # ") (denial_code denial ∷ []) ++ denial_name denial

abbrev pub denied_end : Called → ℕ → ℕ → List ℕ
denied_end title task slot = filled title (codes "\",\"ph\":\"i\",\"pid\":2,\"s\":\"t\",\"tid\":#,\"ts\":@}") (track_of task ∷ slot ∷ [])

abbrev pub denied_line : Called → ℕ → ℕ → Event → Denial → List ℕ
denied_line title task id event denial = denied_front title id event ++ denied_reason title denial ++ denied_end title task (slot_of event)

abbrev pub event_line : Called → ℕ → ℕ → Event → Option Denial → List ℕ
event_line title task id event None = taken_line title task id event
event_line title task id event (Some denial) = denied_line title task id event denial

abbrev pub moment_line : Called → ℕ → Moment → List ℕ
moment_line title task m = event_line title task m.numbered.id m.numbered.event m.denial

-- the lag after the first t slots, in one part of a quantum in the task's period
abbrev pub lag_line : Called → ℕ → ℕ → ℤ → List ℕ
lag_line title task t (pos n) =
    filled title (codes ",\n{\"args\":{\"lag\":#},\"name\":\"lag of $\",\"ph\":\"C\",\"pid\":2,\"ts\":@}") (n ∷ task ∷ t ∷ [])
lag_line title task t (negsuc n) =
    filled title (codes ",\n{\"args\":{\"lag\":-#},\"name\":\"lag of $\",\"ph\":\"C\",\"pid\":2,\"ts\":@}") ((n + 1) ∷ task ∷ t ∷ [])
