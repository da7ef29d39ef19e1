-- The clock of a task: the slots that count for its fair share.
use Rattle.std.specs.Prelude.{ℕ, ◌+◌, ◌-◌, ◌==◌, Bool, ◌&&◌, not, nat_le, nat_lt, if◌then◌else◌, List, [], ◌∷◌, ◌++◌, count_by}
use Rattle.std.specs.List.{list_any, range_with_len}
use Rattle.pf_window.specs.Window.{release_of}
use Rattle.pf_scenario.specs.declared.event.Event.{Event}
use Rattle.pf_scenario.specs.declared.event.Event.TheVariants.{Delay}
use Rattle.pf_scenario.specs.declared.event.Numbered.{Numbered}
use Rattle.pf_run.specs.Record.{Slot, done}
use Rattle.pf_run.specs.Inside.{Joined, shift_of}

-- a stop of a clock: the slots from `start` up to but not including `end`
pub record Stop : Type 0 where
  pub start : ℕ
  pub end : ℕ

-- the subtask that was next at slot u
abbrev pub next_at : List Slot → Joined → ℕ → ℕ
next_at r j u = done r j.task u + 1

-- the shifted release of subtask i, where the events xs are in force
abbrev pub release_at : List Slot → List Numbered → Joined → ℕ → ℕ
release_at r xs j i = release_of j.weight i + shift_of r xs j i

-- a delay by so many slots stops the task's clock for as long, from the release that it found the next subtask at:
-- `before` are the events in force before the delay
abbrev pub stop_by : List Slot → List Numbered → Joined → Event → List Stop
stop_by r before j (Delay slot task by) =
    if task == j.task
    then record { start = release_at r before j (next_at r j slot); end = release_at r before j (next_at r j slot) + by } ∷ []
    else []
stop_by r before j event = []

-- the stops of the task's clock, where the events xs are in force after those `before`
abbrev pub stops_behind : List Slot → Joined → List Numbered → List Numbered → List Stop
stops_behind r j before [] = []
stops_behind r j before (x ∷ xs) = stop_by r before j x.event ++ stops_behind r j (before ++ x ∷ []) xs

-- the clock is stopped in slot t
abbrev pub is_stopped : List Stop → ℕ → Bool
is_stopped stops t = list_any (λ s. nat_le s.start t && nat_lt t s.end) stops

-- the clock at n: the slots from the task's join slot up to n in which it isn't stopped
unfoldable pub clock_of : List Slot → List Numbered → Joined → ℕ → ℕ
clock_of r xs j n =
    count_by (λ t. not (is_stopped (stops_behind r j [] xs) t)) (range_with_len j.slot (n - j.slot))
