-- What a task does in a slot: whether it is inside, which subtask runs, and whether one waits.
use Rattle.std.specs.Prelude.{ℕ, ◌+◌, min, Bool, not, ◌&&◌, nat_le, nat_lt, Option, is_some, find}
use Rattle.std.specs.List.{list_any}
use Rattle.pf_courses.specs.Course.{Track}
use Rattle.pf_courses.specs.Windows.{ran_below, processor_in}
use Rattle.pf_courses.specs.declared.window.Window.{Window}

-- the task is inside in slot t
abbrev pub is_inside : Track → ℕ → Bool
is_inside track t = nat_le track.joined t && nat_lt t track.end

-- slot t is in the window, and the task is still inside
abbrev pub covers : Track → ℕ → Window → Bool
covers track t w = nat_le w.release t && nat_lt t (min w.deadline track.end)

-- the subtask that runs in slot t
abbrev pub running_in : Track → ℕ → Option Window
running_in track t = find (λ w. is_some (processor_in t w)) track.windows

-- a subtask did not run before slot t, in which its window is over
abbrev pub is_behind : Track → ℕ → Bool
is_behind track t = list_any (λ w. nat_le w.deadline t && not (ran_below t w)) track.windows

-- a subtask whose window slot t is in did not run yet
abbrev pub is_waiting : Track → ℕ → Bool
is_waiting track t = list_any (λ w. covers track t w && not (ran_below (t + 1) w)) track.windows
