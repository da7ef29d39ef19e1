-- How much a task may cost while the others ask for what they do.
use Rattle.std.specs.Prelude.{◌≡◌, ℕ, zero, suc, ◌+◌, ◌-◌, ◌*◌, ◌/◌, ◌<◌, ◌≤◌, ◌==◌, Bool, ◌&&◌, nat_le, nat_lt, min, if◌then◌else◌, Option, None, Some, List, length, map, filter_map}
use Rattle.pf_weight.specs.Share.{IsShare}
use Rattle.pf_scenario.specs.Scenario.{Plan}
use Rattle.pf_run.specs.Record.{Slot}
use Rattle.pf_run.specs.Inside.{Joined, join_of}
use Rattle.pf_run.specs.Run.{events_in_force}
use Rattle.pf_tally.specs.Figures.{last_slot}
use Rattle.pf_tally.specs.Lags.{by_task}
use Rattle.pf_tally.specs.Load.{load_in, room_in}

-- what the task may ask for in slot t: what room and cap leave of the others; 0 where they leave less than nothing
abbrev pub left_in : Plan → List Slot → Joined → ℕ → ℕ
left_in s r j t = min (room_in s r t) s.settings.cap + j.weight.units - load_in s r t

-- slot t is one of the task's stay, which ends below slot `last`
abbrev pub is_of_stay : Joined → ℕ → ℕ → Bool
is_of_stay j last t = nat_le j.slot t && nat_lt t last

-- the least that it may ask for in a slot of its stay below t; a whole processor where there is none
unfoldable pub least_left : Plan → List Slot → Joined → ℕ → ℕ → ℕ
least_left s r j last zero = s.settings.base
least_left s r j last (suc t) =
    if is_of_stay j last t then min (least_left s r j last t) (left_in s r j t) else least_left s r j last t

-- a cost is 1 at least
abbrev pub cost_of : ℕ → Option ℕ
cost_of g = if g == 0 then None else Some g

-- so many units are so many whole quanta in each of the task's periods
abbrev pub quanta_in : Plan → Joined → ℕ → ℕ
quanta_in s j units = units * j.weight.period / s.settings.base

-- the slot of the task's leave in the run r, or how many slots there are where it did not leave
abbrev pub end_of : Plan → List Slot → Joined → ℕ
end_of s r j = last_slot (events_in_force s r (length r)) j (length r)

-- the greatest cost that the task may have in the run r; none where it may have none
unfoldable pub grow_of : Plan → List Slot → Joined → Option ℕ
grow_of s r j = cost_of (quanta_in s j (least_left s r j (end_of s r j) (length r)))

-- those of the tasks admitted so far, by task number
abbrev pub grows_of : Plan → List Slot → List (Option ℕ)
grows_of s r = map (grow_of s r) (by_task (filter_map (join_of s.settings.base) (events_in_force s r (length r))))

-- a quantum in each of the task's periods, in units
abbrev pub units_each : Plan → Joined → ℕ
units_each s j = s.settings.base / j.weight.period

-- with the cost g the load is within room and cap in each slot of the task's stay
abbrev pub CanCost : Plan → List Slot → Joined → ℕ → Type 0
CanCost s r j g = (t : ℕ) → t < length r → j.slot ≤ t → t < end_of s r j →
    load_in s r t + g * units_each s j ≤ min (room_in s r t) s.settings.cap + j.weight.cost * units_each s j

-- it is the greatest of the costs from 1 to the period that the task may have, or there is none
abbrev pub IsGreatestCost : Plan → List Slot → Joined → Option ℕ → Type 0
IsGreatestCost s r j None = (k : ℕ) → 1 ≤ k → k ≤ j.weight.period → CanCost s r j k → ⊥
IsGreatestCost s r j (Some g) = (1 ≤ g) × (g ≤ j.weight.period) × CanCost s r j g
    × ((k : ℕ) → g < k → k ≤ j.weight.period → CanCost s r j k → ⊥)

-- The greatest cost is told: of a task whose period divides the base.
abbrev pub GreatestCostIsTold : Type 0
GreatestCostIsTold = (s : Plan) (r : List Slot) (j : Joined) → IsShare j.weight → 1 ≤ s.settings.base →
    j.weight.period * units_each s j ≡ s.settings.base → j.weight.units ≡ j.weight.cost * units_each s j →
    IsGreatestCost s r j (grow_of s r j)
