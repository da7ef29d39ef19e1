-- What a run tells of an admitted task: where it ran, what its delays held back, its end and its leave.
use Rattle.std.specs.Prelude.{ℕ, ◌+◌, ◌-◌, ◌*◌, ◌/◌, ◌==◌, min, max, ℤ, Bool, not, ◌||◌, if◌then◌else◌, Option, None, Some, List, length}
use Rattle.std.specs.List.{list_any}
use Rattle.std.specs.Ordering.{int_eq}
use Rattle.pf_scenario.specs.declared.event.Numbered.{Numbered}
use Rattle.pf_run.specs.Inside.{Joined}
use Rattle.pf_tally.specs.Held.{next_in, held_from}
use Rattle.pf_tally.specs.Ranges.{lag_by}
use Rattle.pf_tally.specs.declared.held.Held.{Held}
use Rattle.pf_courses.specs.Built.{window_by}
use Rattle.pf_courses.specs.Course.{end_of, leave_slot}
use Rattle.pf_courses.specs.declared.window.Window.{Window}

pub record Course : Type 0 where
  pub task : Joined
  pub ran : List ℕ
  pub on : List ℕ
  pub held : List Held
  pub end : ℕ
  pub leave : Option ℕ
  pub slot_count : ℕ

-- that of a task which ran in these slots on these processors, after n slots in which the events xs were in force
abbrev pub course_by : Joined → List ℕ → List ℕ → List Numbered → ℕ → Course
course_by j ran on xs n = record {
  task = j;
  ran = ran;
  on = on;
  held = held_from (next_in ran) j j.slot xs;
  end = end_of xs j n;
  leave = leave_slot xs j;
  slot_count = n;
}

-- how many subtasks are looked at: none of a greater number ran, or was released before the task's end
abbrev pub sub_count : Course → ℕ
sub_count c = min (max (c.end * c.task.weight.cost / c.task.weight.period + 1) (length c.ran)) c.slot_count

abbrev pub course_window : Course → ℕ → Window
course_window c i = window_by c.task c.ran c.on c.held c.end i

-- the window of the subtask that runs in slot t, if one does
abbrev pub window_running : Course → ℕ → Option Window
window_running c t = if list_any (λ q. q == t) c.ran then Some (course_window c (next_in c.ran t)) else None

-- at how many slots the lag is looked at: from the join to the end
abbrev pub lag_count : Course → ℕ
lag_count c = c.end + 1 - c.task.slot

-- the lag after the first t slots, times the period
unfoldable pub course_lag : Course → ℕ → ℤ
course_lag c t = lag_by c.task c.ran c.held t

-- it is told where it is the first one, or another than the one before
unfoldable pub is_lag_told : Course → ℕ → Bool
is_lag_told c t = t == c.task.slot || not (int_eq (course_lag c t) (course_lag c (t - 1)))
