-- The jobs of a task, numbered from 1: each `cost` subtasks are one.
use Rattle.std.specs.Prelude.{ℕ, ◌+◌, ◌-◌, ◌*◌, ℤ, List, length}
use Rattle.pf_scenario.specs.Scenario.{Plan}
use Rattle.pf_run.specs.Record.{Slot}
use Rattle.pf_run.specs.Inside.{Joined, shift_of}
use Rattle.pf_run.specs.Run.{events_in_force}
use Rattle.pf_tally.specs.Clock.{release_at}
use Rattle.pf_tally.specs.Figures.{response_of}

-- the last subtask of job k, and the first
abbrev pub last_of : Joined → ℕ → ℕ
last_of j k = k * j.weight.cost

abbrev pub first_of : Joined → ℕ → ℕ
first_of j k = last_of j k + 1 - j.weight.cost

-- how long job k took, where its last subtask ran in slot t
abbrev pub response_in : Plan → List Slot → Joined → ℕ → ℕ → ℤ
response_in s r j k t = response_of (release_at r (events_in_force s r (length r)) j) j.weight.cost (last_of j k) t

-- by how many slots delays held its last subtask back that didn't hold its first
abbrev pub delay_within : Plan → List Slot → Joined → ℕ → ℕ
delay_within s r j k =
    shift_of r (events_in_force s r (length r)) j (last_of j k) - shift_of r (events_in_force s r (length r)) j (first_of j k)
