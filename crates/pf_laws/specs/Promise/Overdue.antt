-- Which windows are overdue at a slot, and how many.
use Rattle.std.specs.Prelude.{ℕ, Bool, ◌&&◌, nat_le, nat_lt, List, length, filter_map, sum_by, count_by}
use Rattle.std.specs.List.{range_with_len}
use Rattle.pf_scenario.specs.Scenario.{Plan}
use Rattle.pf_scenario.specs.declared.event.Numbered.{Numbered}
use Rattle.pf_run.specs.Record.{Slot, done}
use Rattle.pf_run.specs.Inside.{Joined, join_of}
use Rattle.pf_run.specs.Run.{events_in_force}
use Rattle.pf_tally.specs.Misses.{due_of, leaves_after}

-- subtask i is overdue at slot t: its deadline is over, it did not run below t, and its task had not left before t
abbrev pub is_overdue : List Slot → List Numbered → Joined → ℕ → ℕ → Bool
is_overdue r xs j t i = nat_le (due_of r xs j i) t && leaves_after xs j t && nat_lt (done r j.task t) i

-- how many of a task's subtasks are: none is due before its number
abbrev pub overdue_of_task : List Slot → List Numbered → Joined → ℕ → ℕ
overdue_of_task r xs j t = count_by (is_overdue r xs j t) (range_with_len 1 t)

-- how many there are at slot t, of all tasks that were admitted in the record r of the scenario
unfoldable pub overdue_of : Plan → List Slot → ℕ → ℕ
overdue_of s r t =
    sum_by (λ j. overdue_of_task r (events_in_force s r (length r)) j t)
    (filter_map (join_of s.settings.base) (events_in_force s r (length r)))
