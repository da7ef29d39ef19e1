-- What a run tells of an admitted task: where it ran, what its delays held back, its end and its leave; and of which slots it
-- is asked.
use Rattle.std.specs.Prelude.{ℕ, ◌+◌, ◌-◌, ◌*◌, ◌/◌, min, max, Bool, Option, List, length}
use Rattle.std.specs.List.{flat_map, range_with_len}
use Rattle.pf_scenario.specs.declared.event.Numbered.{Numbered}
use Rattle.pf_vocabulary.specs.declared.names.titles.Titles.{Titles}
use Rattle.pf_vocabulary.specs.NameColumn.Column.{with_name}
use Rattle.pf_run.specs.Inside.{Joined}
use Rattle.pf_tally.specs.Held.{next_in, held_from}
use Rattle.pf_tally.specs.declared.held.Held.{Held}
use Rattle.pf_courses.specs.Built.{window_by}
use Rattle.pf_courses.specs.Course.{end_of, leave_slot}
use Rattle.pf_courses.specs.declared.window.Window.{Window}
use Rattle.pf_windows.specs.Windows.{is_shown_of, window_records}
use Rattle.pf_windows.specs.declared.slots.Slots.{Slots}

pub record Told : Type 0 where
  pub task : Joined
  pub ran : List ℕ
  pub on : List ℕ
  pub held : List Held
  pub end : ℕ
  pub leave : Option ℕ
  pub slots : Slots

-- that of a task which ran in these slots on these processors, where the events xs were in force
abbrev pub told_by : Joined → List ℕ → List ℕ → List Numbered → Slots → Told
told_by j ran on xs slots = record {
  task = j;
  ran = ran;
  on = on;
  held = held_from (next_in ran) j j.slot xs;
  end = end_of xs j slots.now;
  leave = leave_slot xs j;
  slots = slots;
}

-- how many subtasks are looked at: none of a greater number ran, or was released before the task's end
abbrev pub sub_count : Told → ℕ
sub_count t = min (max (t.end * t.task.weight.cost / t.task.weight.period + 1) (length t.ran)) t.slots.now

abbrev pub told_window : Told → ℕ → Window
told_window t i = window_by t.task t.ran t.on t.held t.end i

abbrev pub is_shown : Told → Window → Bool
is_shown t w = is_shown_of t.slots t.end t.leave w

-- the lines of the windows after the first k
abbrev pub records_behind_sub : Told → ℕ → List (List (List ℕ))
records_behind_sub t k =
    flat_map (λ i. window_records t.slots t.task t.end t.leave (told_window t i)) (range_with_len (k + 1) (sub_count t - k))

-- and what the script calls the task
pub record NamedTold : Type 0 where
  pub told : Told
  pub titles : Titles

-- the same lines with its name
abbrev pub named_behind_sub : NamedTold → ℕ → List (List (List ℕ))
named_behind_sub x k = with_name x.titles x.told.task.task (records_behind_sub x.told k)
