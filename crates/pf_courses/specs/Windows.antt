-- Of one window: whether its subtask ran before a slot, where it runs in it, and the slots that it lies in.
use Rattle.std.specs.Prelude.{ℕ, ◌-◌, min, max, Bool, false, ◌==◌, nat_lt, if◌then◌else◌, Option, Some, None}
use Rattle.std.specs.Option.{option_map_or, option_and_then}
use Rattle.pf_run.specs.Inside.{Joined}
use Rattle.pf_courses.specs.declared.window.Window.{Window}

abbrev pub ran_below : ℕ → Window → Bool
ran_below t w = option_map_or (λ q. nat_lt q.slot t) w.ran false

abbrev pub processor_in : ℕ → Window → Option ℕ
processor_in t w = option_and_then (λ q. if q.slot == t then Some q.processor else None) w.ran

-- the first slot in which a subtask released in slot r may run, once the one before it has run
abbrev pub eligible_from : Joined → ℕ → ℕ
eligible_from j r = max j.slot (r - j.early)

-- where the window ends: at its deadline, or at the task's leave, if it left before
abbrev pub window_end : Option ℕ → Window → ℕ
window_end leave w = option_map_or (λ t. min w.deadline t) leave w.deadline
