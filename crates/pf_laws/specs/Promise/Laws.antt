-- The laws of a run's load and of its windows, each the contract of a public function.
use Rattle.std.specs.Prelude.{◌≡◌, ℕ, ◌+◌, ◌-◌, ◌*◌, ◌<◌, ◌≤◌, ◌==◌, true, Option, List, [], length, All, Contains, count_by, filter_map, take}
use Rattle.pf_order.specs.declared.pick.Pick.{Pick}
use Rattle.pf_scenario.specs.Scenario.{Plan}
use Rattle.pf_scenario.specs.Edit.{IsScenario}
use Rattle.pf_run.specs.Record.{Slot}
use Rattle.pf_run.specs.Inside.{Joined, join_of, load_of}
use Rattle.pf_run.specs.Run.{events_in_force, IsRun}
use Rattle.pf_tally.specs.Figures.{tardiness_of, figures_of}
use Rattle.pf_tally.specs.Misses.{due_of, misses_of}
use Rattle.pf_tally.specs.Load.{load_in, room_in, overload_of}
use Rattle.pf_tally.specs.Room.{LeavesRoom}
use Rattle.pf_laws.specs.Promise.Overdue.{is_overdue, overdue_of}

-- The load never passes the cap, at any point of a run: the events in force before a point are the first so many of
-- those that are in force at the end.
abbrev pub LoadIsWithinCap : Type 0
LoadIsWithinCap = (s : Plan) (n : ℕ) (r : List Slot) (k : ℕ) → IsScenario s → IsRun s n r →
    load_of s.settings.base (take k (events_in_force s r n)) ≤ s.settings.cap

-- A miss costs a quantum: a run that is overloaded by less than a quantum, in all its slots together, misses no window.
abbrev pub MissCostsQuantum : Type 0
MissCostsQuantum = (s : Plan) (n : ℕ) (r : List Slot) → IsScenario s → IsRun s n r →
    overload_of s r n < s.settings.base → misses_of s r ≡ []

-- Misses cost quanta: as many windows as were missed with the deadline `due` cost as many quanta of overload in the slots
-- below it.
abbrev pub MissesCostQuanta : Type 0
MissesCostQuanta = (s : Plan) (n : ℕ) (r : List Slot) (due : ℕ) → IsScenario s → IsRun s n r →
    s.settings.base * count_by (λ m. m.deadline == due) (misses_of s r) ≤ overload_of s r due

-- Overdue windows cost quanta: as many as are overdue at slot t, whenever they were due, cost as many quanta of overload
-- in the slots below t.
abbrev pub OverdueCostsQuanta : Type 0
OverdueCostsQuanta = (s : Plan) (n : ℕ) (r : List Slot) (t : ℕ) → IsScenario s → IsRun s n r → t ≤ n →
    s.settings.base * overdue_of s r t ≤ overload_of s r t

-- Lateness costs quanta: a window that is overdue at slot t, so that it comes t + 1 - due slots late at the least, cost as
-- many quanta of overload before its deadline.
abbrev pub LatenessCostsQuanta : Type 0
LatenessCostsQuanta = (s : Plan) (n : ℕ) (r : List Slot) (t : ℕ) (j : Joined) (i : ℕ) → IsScenario s → IsRun s n r → t ≤ n →
    Contains (filter_map (join_of s.settings.base) (events_in_force s r n)) j →
    is_overdue r (events_in_force s r n) j t i ≡ true →
    s.settings.base * (t + 1 - due_of r (events_in_force s r n) j i) ≤ overload_of s r (due_of r (events_in_force s r n) j i)

-- Tardiness costs quanta: a missed window cost as many quanta of overload before its deadline as its subtask ran slots
-- late.
abbrev pub TardinessCostsQuanta : Type 0
TardinessCostsQuanta = (s : Plan) (n : ℕ) (r : List Slot) → IsScenario s → IsRun s n r →
    All (λ m. s.settings.base * tardiness_of m ≤ overload_of s r m.deadline) (misses_of s r)

-- Tardiness is bounded: no task is later, in any figures of the run, than by as many slots as the overload has quanta.
abbrev pub TardinessIsBounded : Type 0
TardinessIsBounded = (s : Plan) (n : ℕ) (r : List Slot) (rows : List (List (Option Pick))) → IsScenario s → IsRun s n r →
    All (λ f. s.settings.base * f.tardiness ≤ overload_of s r n) (figures_of s r rows)

-- no slot has a load above its room
abbrev pub IsWithinRoom : Plan → List Slot → Type 0
IsWithinRoom s r = (t : ℕ) → t < length r → load_in s r t ≤ room_in s r t

-- No window is missed: a run whose load is within the processors in use, in each slot, misses none.
abbrev pub NoWindowIsMissed : Type 0
NoWindowIsMissed = (s : Plan) (n : ℕ) (r : List Slot) → IsScenario s → IsRun s n r → IsWithinRoom s r →
    misses_of s r ≡ []

-- The settings are enough: where the processors carry the cap, with each limit, no window of any run is missed, whatever
-- joins, leaves and is delayed.
abbrev pub SettingsSuffice : Type 0
SettingsSuffice = (s : Plan) (n : ℕ) (r : List Slot) → IsScenario s → IsRun s n r →
    s.settings.cap ≤ s.settings.base * s.settings.processors → All (λ x. LeavesRoom s.settings x.event) s.events →
    misses_of s r ≡ []
