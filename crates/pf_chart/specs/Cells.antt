-- The cells of a task's lines: the first condition that holds.
use Rattle.std.specs.Prelude.{ℕ, ◌+◌, ◌-◌, ◌==◌, pos, false, ◌&&◌, if◌then◌else◌, List, [], ◌∷◌, codes, filter, slice_index_or}
use Rattle.std.specs.Option.{option_map_or, option_and_then}
use Rattle.pf_tally.specs.Clock.{is_stopped}
use Rattle.pf_courses.specs.Activity.{covers, is_behind, is_inside, is_waiting, running_in}
use Rattle.pf_courses.specs.Course.{Track}
use Rattle.pf_courses.specs.Windows.{processor_in}
use Rattle.pf_courses.specs.declared.window.Window.{Window}
use Rattle.pf_chart.specs.Symbols.{blank, lag_symbol, processor_symbol}

-- its processor where it runs, `!` where it waits after a deadline, `.` where it waits
abbrev pub task_cell : Track → ℕ → ℕ
task_cell track t =
    option_map_or processor_symbol (option_and_then (processor_in t) (running_in track t))
    (if is_inside track t && is_behind track t then slice_index_or (codes "!") 0 0
    else if is_waiting track t then slice_index_or (codes ".") 0 0 else blank)

-- the slot of a window, `[` its first, `]` its last, `I` its only one
abbrev pub window_symbol : ℕ → Window → ℕ
window_symbol t w =
    if w.release == t && w.deadline == t + 1 then slice_index_or (codes "I") 0 0
    else if w.release == t then slice_index_or (codes "[") 0 0
    else if w.deadline == t + 1 then slice_index_or (codes "]") 0 0 else slice_index_or (codes "-") 0 0

-- `X` where two windows share the slot
abbrev pub windows_symbol : ℕ → List Window → ℕ
windows_symbol t [] = blank
windows_symbol t (w ∷ []) = window_symbol t w
windows_symbol t (w ∷ v ∷ ws) = slice_index_or (codes "X") 0 0

abbrev pub window_cell : Track → ℕ → ℕ
window_cell track t = windows_symbol t (filter (covers track t) track.windows)

-- the lag before slot t
abbrev pub lag_cell : Track → ℕ → ℕ
lag_cell track t =
    if is_inside track t then lag_symbol track.weight.period (slice_index_or track.lags (t - track.joined) (pos 0)) else blank

-- `^` runs late, `>` joins, `<` left, `~` its clock is stopped
abbrev pub mark_cell : Track → ℕ → ℕ
mark_cell track t =
    if option_map_or (λ w. w.late) (running_in track t) false then slice_index_or (codes "^") 0 0
    else if track.joined == t then slice_index_or (codes ">") 0 0
    else if track.left && track.end == t then slice_index_or (codes "<") 0 0
    else if is_stopped track.stops t then slice_index_or (codes "~") 0 0 else blank
