-- What the tasks inside ask of the slots of a run, beside the processors in use.
use Rattle.std.specs.Prelude.{ℕ, zero, suc, ◌+◌, ◌-◌, ◌*◌, List}
use Rattle.pf_scenario.specs.Scenario.{Plan}
use Rattle.pf_run.specs.Record.{Slot}
use Rattle.pf_run.specs.Inside.{load_of, count_of}
use Rattle.pf_run.specs.Run.{events_in_force}

-- the load of slot t, in units, where the events of the slots up to t are taken, and the units that its processors have
abbrev pub load_in : Plan → List Slot → ℕ → ℕ
load_in s r t = load_of s.settings.base (events_in_force s r (suc t))

abbrev pub room_in : Plan → List Slot → ℕ → ℕ
room_in s r t = s.settings.base * count_of s.settings.processors (events_in_force s r (suc t))

-- by how many units the load was above the room in the slots below t, in all
unfoldable pub overload_of : Plan → List Slot → ℕ → ℕ
overload_of s r zero = 0
overload_of s r (suc t) = overload_of s r t + (load_in s r t - room_in s r t)
