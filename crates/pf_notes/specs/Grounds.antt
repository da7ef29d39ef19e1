-- What the denial of an event rests on.
use Rattle.std.specs.Prelude.{ℕ, zero, suc, ◌+◌, ◌-◌, ◌/◌, Bool, nat_lt, nat_le, min, if◌then◌else◌, Option, None, Some, List, ◌++◌, codes, length, take}
use Rattle.std.specs.Option.{option_map, option_and_then}
use Rattle.std.specs.Fmt.{decimal}
use Rattle.pf_text.specs.Columns.Decimals.{cut, up}
use Rattle.pf_scenario.specs.System.{System}
use Rattle.pf_scenario.specs.Scenario.{Plan, past}
use Rattle.pf_scenario.specs.declared.event.Event.{Event}
use Rattle.pf_scenario.specs.declared.event.Event.TheVariants.{Join, Leave, Delay}
use Rattle.pf_scenario.specs.declared.event.Numbered.{Numbered}
use Rattle.pf_admit.specs.Member.{free_from, next_release}
use Rattle.pf_admit.specs.declared.denial.Denial.{Denial}
use Rattle.pf_admit.specs.declared.denial.Denial.TheVariants as denied
use Rattle.pf_run.specs.declared.denied.Denied.{Denied}
use Rattle.pf_run.specs.Record.{Slot, denials_of, done, in_force}
use Rattle.pf_run.specs.Inside.{Joined, joined_by, load_of, member_of}
use Rattle.pf_notes.specs.Subject.{subtask_text}
use Rattle.pf_notes.specs.Point.{before_event, event_of, first_slot, joined_at, member_in}
use Rattle.pf_notes.specs.Absence.{absence_of, absence_text}
use Rattle.pf_notes.specs.declared.grounds.Grounds.{Grounds}
use Rattle.pf_notes.specs.declared.grounds.Grounds.TheVariants.{OverCapacity, NotInside, TooEarly, Released}

-- the last slot up to which a leave is looked for: n, or the last one below the horizon
abbrev pub last_slot : System → ℕ → ℕ
last_slot settings n = min n (settings.horizon - 1)

-- a leave of the task in slot t would be let go
abbrev pub lets_go : Plan → List Slot → Joined → ℕ → Bool
lets_go s r j t = nat_le (free_from (member_in s r j t)) t

-- the next slot above `from`, at most `to`, in which it would
abbrev pub leaves_in : Plan → List Slot → Joined → ℕ → ℕ → Option ℕ
leaves_in s r j from to = first_slot (lets_go s r j) (from + 1) (to - from)

-- the last slot below t in which the task ran; 0 where it ran in none
abbrev pub last_ran : List Slot → ℕ → ℕ → ℕ
last_ran r task zero = 0
last_ran r task (suc t) = if nat_lt (done r task t) (done r task (suc t)) then t else last_ran r task t

-- of the join of a task, of which a cost of 1 asks for h / period
abbrev pub over_capacity : Plan → List Denied → List Numbered → Joined → Grounds
over_capacity s denials before j =
    OverCapacity j.weight.units (s.settings.cap - load_of s.settings.base (in_force denials before)) s.settings.base
    ((s.settings.cap - load_of s.settings.base (in_force denials before)) / (s.settings.base / j.weight.period))

-- of a leave in this slot, of a task that was inside with these events in force
abbrev pub early_leave : Plan → List Slot → List Numbered → ℕ → Joined → Grounds
early_leave s r xs slot j =
    TooEarly j.task (member_of (take slot r) xs j).done slot (last_ran r j.task slot)
    (leaves_in s r j slot (last_slot s.settings (length r))) (free_from (member_in s r j (last_slot s.settings (length r)))) s.settings.horizon

-- of a delay in this slot
abbrev pub late_delay : List Slot → List Numbered → ℕ → Joined → Grounds
late_delay r xs slot j =
    Released j.task ((member_of (take slot r) xs j).done + 1) (next_release (member_of (take slot r) xs j))

-- what the denial of an event after the events `before` rests on, in the record r of the scenario with these denials
abbrev pub grounds_for : Plan → List Slot → List Denied → List Numbered → Event → Denial → Option Grounds
grounds_for s r denials before (Join slot task cost period early) denied.OverCapacity =
    option_map (over_capacity s denials before) (joined_by s.settings.base (Join slot task cost period early))
grounds_for s r denials before (Leave slot task) denied.NotInside =
    option_map (NotInside task) (absence_of s.events denials before slot task)
grounds_for s r denials before (Delay slot task by) denied.NotInside =
    option_map (NotInside task) (absence_of s.events denials before slot task)
grounds_for s r denials before (Leave slot task) denied.TooEarly =
    option_map (early_leave s r (in_force denials before) slot) (joined_at s.settings.base (in_force denials before) task)
grounds_for s r denials before (Delay slot task by) denied.Released =
    option_map (late_delay r (in_force denials before) slot) (joined_at s.settings.base (in_force denials before) task)
grounds_for s r denials before event denial = None

-- what a denial of the record rests on: the point of an event is after those of the record's slots that come before it in run order
abbrev pub grounds_of : Plan → List Slot → Denied → Option Grounds
grounds_of s r d =
    option_and_then (λ x. grounds_for s r (denials_of r) (before_event d.id (past s (length r))) x.event d.denial)
    (event_of d.id (past s (length r)))

-- what a join asks for, and what is free, of a processor: with 4 decimals, the one rounded up, the other cut off
unfoldable pub asked_text : ℕ → ℕ → List ℕ
asked_text base asked = codes "it asks for " ++ up asked base 4 ++ codes " of a processor, and "

unfoldable pub free_text : ℕ → ℕ → List ℕ
free_text base free = cut free base 4 ++ codes " are free"

-- when the next subtask was released
unfoldable pub released_text : ℕ → List ℕ
released_text slot = codes " was released already, in slot " ++ decimal slot

-- in which slot a task may leave that may not leave before `later`, where it is below the horizon
abbrev pub later_text : ℕ → ℕ → List ℕ
later_text later horizon =
    if nat_lt later horizon then codes "it may leave in slot " ++ decimal later ++ codes " or later, which is not stepped yet"
    else codes "it may leave in no slot below the horizon " ++ decimal horizon

-- the next slot in which it may leave, if it is one of those up to the end, or else that
abbrev pub repair_text : Option ℕ → ℕ → ℕ → List ℕ
repair_text (Some slot) later horizon = codes "the next slot in which it may leave is " ++ decimal slot
repair_text None later horizon = later_text later horizon

-- the slot in which its last subtask ran, and then this
abbrev pub too_early_text : ℕ → Option ℕ → ℕ → ℕ → List ℕ
too_early_text ran from later horizon = codes " ran in slot " ++ decimal ran ++ codes ": " ++ repair_text from later horizon

-- the task that it speaks of
abbrev pub task_of_grounds : Grounds → Option ℕ
task_of_grounds (OverCapacity asked free base cost) = None
task_of_grounds (NotInside task absence) = Some task
task_of_grounds (TooEarly task sub slot ran from later horizon) = Some task
task_of_grounds (Released task sub slot) = Some task

-- its sentence, of a task with this name
abbrev pub grounds_text : Option (List ℕ) → Grounds → List ℕ
grounds_text name (OverCapacity asked free base cost) = asked_text base asked ++ free_text base free
grounds_text name (NotInside task absence) = absence_text name task absence
grounds_text name (TooEarly task sub slot ran from later horizon) =
    subtask_text name task sub ++ too_early_text ran from later horizon
grounds_text name (Released task sub slot) = subtask_text name task sub ++ released_text slot
