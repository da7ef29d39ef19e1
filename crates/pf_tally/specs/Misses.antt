-- Which windows were missed.
use Rattle.std.specs.Prelude.{ℕ, ◌+◌, ◌==◌, Bool, true, ◌&&◌, nat_le, Option, List, length, filter, filter_map, map, find, position}
use Rattle.std.specs.List.{list_any, flat_map, range_with_len}
use Rattle.std.specs.Option.{option_map_or}
use Rattle.std.specs.declared.cmp.Ordering.{Ordering}
use Rattle.std.specs.Ordering.{nat_cmp, on, then_cmp}
use Rattle.pf_window.specs.Window.{deadline_of}
use Rattle.pf_scenario.specs.Sorted.{sorted_by}
use Rattle.pf_scenario.specs.Event.{slot_of, is_leave_of}
use Rattle.pf_scenario.specs.Scenario.{Plan}
use Rattle.pf_scenario.specs.declared.event.Numbered.{Numbered}
use Rattle.pf_run.specs.Record.{Slot}
use Rattle.pf_run.specs.Inside.{Joined, join_of, shift_of}
use Rattle.pf_run.specs.Run.{events_in_force}
use Rattle.pf_tally.specs.declared.miss.Miss.{Miss}

-- the shifted deadline of subtask i, where the events xs are in force
abbrev pub due_of : List Slot → List Numbered → Joined → ℕ → ℕ
due_of r xs j i = deadline_of j.weight i + shift_of r xs j i

-- the slot in which subtask i ran, if it did
abbrev pub ran_in : List Slot → Joined → ℕ → Option ℕ
ran_in r j i = position (λ slot. list_any (λ p. p.task == j.task && p.sub == i) slot.picks) r

-- the task's leave, if it left, is not below slot t
abbrev pub leaves_after : List Numbered → Joined → ℕ → Bool
leaves_after xs j t = option_map_or (λ x. nat_le t (slot_of x.event)) (find (λ x. is_leave_of j.task x.event) xs) true

-- subtask i missed its window: its deadline is over, the task had not left before it, and i did not run before it
abbrev pub is_missed : List Slot → List Numbered → Joined → ℕ → Bool
is_missed r xs j i =
    nat_le (due_of r xs j i) (length r)
    && leaves_after xs j (due_of r xs j i)
    && option_map_or (λ t. nat_le (due_of r xs j i) t) (ran_in r j i) true

abbrev pub miss_of : List Slot → List Numbered → Joined → ℕ → Miss
miss_of r xs j i = record { task = j.task; sub = i; deadline = due_of r xs j i; ran = ran_in r j i }

-- the misses of a task: no subtask is due before its number, so those up to the length are enough
abbrev pub misses_of_task : List Slot → List Numbered → Joined → List Miss
misses_of_task r xs j = map (miss_of r xs j) (filter (is_missed r xs j) (range_with_len 1 (length r)))

-- misses go by deadline, then by task
unfoldable pub miss_cmp : Miss → Miss → Ordering
miss_cmp = then_cmp (on (λ m. m.deadline) nat_cmp) (on (λ m. m.task) nat_cmp)

-- these misses in this order
abbrev pub in_miss_order : List Miss → List Miss
in_miss_order = sorted_by miss_cmp

-- the missed windows of the tasks admitted so far, those that left too, after the record r of the scenario
unfoldable pub misses_of : Plan → List Slot → List Miss
misses_of s r =
    in_miss_order (flat_map (misses_of_task r (events_in_force s r (length r)))
    (filter_map (join_of s.settings.base) (events_in_force s r (length r))))
