-- What the events tell of a run, in chapters: the names of the tasks; slot by slot the load and the quanta; and task by task
-- its windows, its quanta and events, and its lags.
use Rattle.std.specs.Prelude.{ℕ, suc, zero, ◌+◌, ◌==◌, if◌then◌else◌, Option, None, Some, List, [], ◌++◌, length, find, slice_get}
use Rattle.std.specs.List.{flat_map, range_with_len}
use Rattle.std.specs.Option.{option_map_or}
use Rattle.pf_weight.specs.declared.task.TheConstants.{LARGEST_TASK}
use Rattle.pf_courses.specs.declared.window.Window.{Window}
use Rattle.pf_tally.specs.declared.level.Level.{Level}
use Rattle.pf_order.specs.declared.pick.Pick.{Pick}
use Rattle.pf_place.specs.Occupancy.{sitter}
use Rattle.pf_collections.specs.Table.Lists.{noted_of}
use Rattle.pf_trace.specs.Books.{book_text}
use Rattle.pf_trace.specs.Courses.{Course, window_running}
use Rattle.pf_trace.specs.Lines.{seat_line, units_line}
use Rattle.pf_trace.specs.Tasks.{TaskTrace, name_lines, place_count, place_text}
use Rattle.pf_trace.specs.Titles.{Called}

-- the rows of the slots, so many processors wide; what the lines of no task are told by; what is told of each listed task;
-- and by slot load and room, where one of them changes
pub record Run : Type 0 where
  pub rows : List (List (Option Pick))
  pub processors : ℕ
  pub title : Called
  pub told : ℕ → Option TaskTrace
  pub levels : List Level

-- the same with a list for each task number, which has what is told of the task
pub record RunTrace : Type 0 where
  pub rows : List (List (Option Pick))
  pub processors : ℕ
  pub title : Called
  pub tasks : List (List TaskTrace)
  pub levels : List Level

abbrev pub trace_at : List (List TaskTrace) → ℕ → Option TaskTrace
trace_at tasks task = slice_get (noted_of tasks task) 0

abbrev pub run_by : RunTrace → Run
run_by b = record { rows = b.rows; processors = b.processors; title = b.title; told = trace_at b.tasks; levels = b.levels }

-- the quantum that a task has in slot t, on the track of processor p
abbrev pub running_line : TaskTrace → ℕ → ℕ → ℕ → Window → List ℕ
running_line x task p t w = seat_line x.title task w.sub w.release w.deadline p t

abbrev pub course_seat : TaskTrace → ℕ → ℕ → Course → List ℕ
course_seat x p t c = option_map_or (running_line x c.task.task p t) (window_running c t) []

abbrev pub seat_lines : ℕ → ℕ → TaskTrace → List ℕ
seat_lines p t x = option_map_or (course_seat x p t) x.course []

-- that of who sits on processor p
abbrev pub sitter_lines : (ℕ → Option TaskTrace) → ℕ → ℕ → Option Pick → List ℕ
sitter_lines told t p sitter = option_map_or (λ pick. option_map_or (seat_lines p t) (told pick.task) []) sitter []

-- those of a row of m processors
abbrev pub row_lines : (ℕ → Option TaskTrace) → ℕ → ℕ → List (Option Pick) → List ℕ
row_lines told t m row = flat_map (λ p. sitter_lines told t p (sitter row p)) (range_with_len 0 m)

abbrev pub name_place : Run → ℕ → List ℕ
name_place b task = option_map_or name_lines (b.told task) []

-- the level, if it is of slot t
abbrev pub level_when : ℕ → Option Level → Option Level
level_when t None = None
level_when t (Some l) = if l.slot == t then Some l else None

-- the load of slot t, if it changes in it, and its quanta
abbrev pub units_at : Run → ℕ → List ℕ
units_at b t = option_map_or (units_line b.title) (find (λ l. l.slot == t) b.levels) []

abbrev pub slot_place : Run → ℕ → List ℕ
slot_place b t = units_at b t ++ option_map_or (row_lines b.told t b.processors) (slice_get b.rows t) []

abbrev pub task_places : Run → ℕ → ℕ
task_places b task = option_map_or place_count (b.told task) 0

abbrev pub task_place : Run → ℕ → ℕ → List ℕ
task_place b task at = option_map_or (λ x. place_text x at) (b.told task) []

abbrev pub chapter_count : ℕ
chapter_count = 2 + LARGEST_TASK

abbrev pub chapter_places : Run → ℕ → ℕ
chapter_places b zero = LARGEST_TASK
chapter_places b (suc zero) = length b.rows
chapter_places b (suc (suc k)) = task_places b (k + 1)

abbrev pub chapter_place : Run → ℕ → ℕ → List ℕ
chapter_place b zero at = name_place b (at + 1)
chapter_place b (suc zero) at = slot_place b at
chapter_place b (suc (suc k)) at = task_place b (k + 1) at

abbrev pub run_text : Run → List ℕ
run_text b = book_text chapter_count (chapter_places b) (chapter_place b)
