-- What the events tell of a listed task: its windows, its quanta and events, and its lags, by places.
use Rattle.std.specs.Prelude.{ℕ, ◌+◌, ◌-◌, ◌==◌, nat_lt, if◌then◌else◌, is_some, Option, List, [], ◌++◌, filter}
use Rattle.std.specs.List.{flat_map}
use Rattle.std.specs.Option.{option_map_or, option_and_then}
use Rattle.pf_scenario.specs.Event.{slot_of}
use Rattle.pf_trace.specs.Courses.{Course, course_lag, course_window, is_lag_told, lag_count, sub_count, window_running}
use Rattle.pf_trace.specs.Lines.{lag_line, moment_line, quantum_lines, track_names, window_lines}
use Rattle.pf_trace.specs.Titles.{Called}
use Rattle.pf_trace.specs.declared.moment.Moment.{Moment}

-- its course, if it was admitted, and its events, in run order; after so many slots
pub record TaskTrace : Type 0 where
  pub title : Called
  pub task : ℕ
  pub course : Option Course
  pub moments : List Moment
  pub slot_count : ℕ

abbrev pub name_lines : TaskTrace → List ℕ
name_lines x = track_names x.title x.task (is_some x.course)

abbrev pub window_places : TaskTrace → ℕ
window_places x = option_map_or sub_count x.course 0

abbrev pub lag_places : TaskTrace → ℕ
lag_places x = option_map_or lag_count x.course 0

-- a place for each subtask that is looked at, for each slot, and for each lag
abbrev pub place_count : TaskTrace → ℕ
place_count x = window_places x + x.slot_count + lag_places x

-- the window of a subtask, counted from 0
abbrev pub window_place : TaskTrace → ℕ → List ℕ
window_place x k = option_map_or (λ c. window_lines x.title c.task c.end c.leave (course_window c (k + 1))) x.course []

-- the events of slot t, and the quantum
abbrev pub moments_at : TaskTrace → ℕ → List ℕ
moments_at x t = flat_map (moment_line x.title x.task) (filter (λ m. slot_of m.numbered.event == t) x.moments)

abbrev pub quantum_at : TaskTrace → ℕ → List ℕ
quantum_at x t = option_map_or (quantum_lines x.title x.task) (option_and_then (λ c. window_running c t) x.course) []

abbrev pub life_place : TaskTrace → ℕ → List ℕ
life_place x t = moments_at x t ++ quantum_at x t

-- the lag so many slots after the join
abbrev pub told_lag : TaskTrace → Course → ℕ → List ℕ
told_lag x c t = if is_lag_told c t then lag_line x.title x.task t (course_lag c t) else []

abbrev pub lag_place : TaskTrace → ℕ → List ℕ
lag_place x k = option_map_or (λ c. told_lag x c (c.task.slot + k)) x.course []

-- the text of a place
abbrev pub place_text : TaskTrace → ℕ → List ℕ
place_text x at =
    if nat_lt at (window_places x) then window_place x at
    else if nat_lt (at - window_places x) x.slot_count then life_place x (at - window_places x)
    else lag_place x (at - window_places x - x.slot_count)
