-- A point of the run order, by the events of the run that come before it.
use Rattle.std.specs.Prelude.{ℕ, zero, suc, ◌+◌, ◌==◌, Bool, if◌then◌else◌, Option, None, Some, List, take, find, position}
use Rattle.std.specs.Option.{option_map_or}
use Rattle.pf_admit.specs.declared.member.Member.{Member}
use Rattle.pf_scenario.specs.Scenario.{Plan}
use Rattle.pf_scenario.specs.declared.event.Numbered.{Numbered}
use Rattle.pf_run.specs.Record.{Slot}
use Rattle.pf_run.specs.Inside.{Joined, inside, member_of}
use Rattle.pf_run.specs.Run.{events_in_force}

-- these events up to the one of this number, which is not among them; all where there is none of it
abbrev pub before_event : ℕ → List Numbered → List Numbered
before_event id xs = option_map_or (λ place. take place xs) (position (λ x. x.id == id) xs) xs

-- the event of this number among these
abbrev pub event_of : ℕ → List Numbered → Option Numbered
event_of id xs = find (λ x. x.id == id) xs

-- the task as its join brought it, where it is inside after these events in force
abbrev pub joined_at : ℕ → List Numbered → ℕ → Option Joined
joined_at base xs task = find (λ j. j.task == task) (inside base xs)

-- a task as admission looks at it before the events of slot t
abbrev pub member_in : Plan → List Slot → Joined → ℕ → Member
member_in s r j t = member_of (take t r) (events_in_force s r t) j

-- the first of the k slots from t on that passes the test
abbrev pub first_slot : (ℕ → Bool) → ℕ → ℕ → Option ℕ
first_slot test t zero = None
first_slot test t (suc k) = if test t then Some t else first_slot test (t + 1) k
