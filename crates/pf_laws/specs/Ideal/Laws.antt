-- The laws of schedules by deadline and reach, each the contract of a public function.
use Rattle.std.specs.Prelude.{◌≡◌, ℕ, ◌*◌, ◌≤◌, true, false, sum_by}
use Rattle.pf_laws.specs.Ideal.Schedule.{Schedule, is_task, IsByReach, is_overdue, overdue_of, overload, IsWithin}

-- Overdue subtasks cost whole quanta: as many as are overdue at the end, so many quanta, and more, were asked for beyond
-- what the slots have.
abbrev pub OverdueCostsQuanta : Type 0
OverdueCostsQuanta = (s : Schedule) → IsByReach s → s.quantum * sum_by (overdue_of s) s.tasks ≤ overload s s.end

-- A schedule that asks of no slot more than it has leaves none overdue.
abbrev pub NoneIsOverdue : Type 0
NoneIsOverdue = (s : Schedule) (t i : ℕ) → IsByReach s → IsWithin s → is_task s t ≡ true → is_overdue s t i ≡ false
