-- Events, and the order in which a run takes them.
use Rattle.std.specs.Prelude.{ℕ, Bool, false, ◌==◌, Option, Some, None, List}
use Rattle.std.specs.Option.{unwrap_or}
use Rattle.std.specs.declared.cmp.Ordering.{Ordering}
use Rattle.std.specs.Ordering.{nat_cmp, on, then_cmp}
use Rattle.pf_scenario.specs.Sorted.{sorted_by}
use Rattle.pf_scenario.specs.declared.event.Event.{Event}
use Rattle.pf_scenario.specs.declared.event.Event.TheVariants.{Join, Leave, Delay, Limit}
use Rattle.pf_scenario.specs.declared.event.Numbered.{Numbered}

-- the slot of an event
abbrev pub slot_of : Event → ℕ
slot_of (Join slot task cost period early) = slot
slot_of (Leave slot task) = slot
slot_of (Delay slot task by) = slot
slot_of (Limit slot count) = slot

-- in a slot limits come first, then leaves, then joins, then delays
abbrev pub kind_of : Event → ℕ
kind_of (Limit slot count) = 0
kind_of (Leave slot task) = 1
kind_of (Join slot task cost period early) = 2
kind_of (Delay slot task by) = 3

-- the task of an event: the one that joins, leaves or is delayed; a limit has none
abbrev pub task_of : Event → Option ℕ
task_of (Join slot task cost period early) = Some task
task_of (Leave slot task) = Some task
task_of (Delay slot task by) = Some task
task_of (Limit slot count) = None

-- the event is of slot t
abbrev pub is_of_slot : ℕ → Numbered → Bool
is_of_slot t x = slot_of x.event == t

-- the event joins the task, or leaves it
abbrev pub is_join_of : ℕ → Event → Bool
is_join_of task (Join slot task' cost period early) = task' == task
is_join_of task event = false

abbrev pub is_leave_of : ℕ → Event → Bool
is_leave_of task (Leave slot task') = task' == task
is_leave_of task event = false

-- the order of a slot's events: by kind, then by task, then by number
unfoldable pub run_cmp : Numbered → Numbered → Ordering
run_cmp =
    then_cmp (on (λ x. kind_of x.event) nat_cmp)
    (then_cmp (on (λ x. unwrap_or (task_of x.event) 0) nat_cmp) (on (λ x. x.id) nat_cmp))

-- these events in run order
abbrev pub in_run_order : List Numbered → List Numbered
in_run_order = sorted_by run_cmp
