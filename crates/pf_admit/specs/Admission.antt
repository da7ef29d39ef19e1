-- The rules of admission: why an event is denied, if it is.
use Rattle.std.specs.Prelude.{ℕ, ◌+◌, nat_lt, if◌then◌else◌, Option, None, Some}
use Rattle.pf_admit.specs.Member.{next_release, free_from}
use Rattle.pf_admit.specs.declared.member.Member.{Member}
use Rattle.pf_admit.specs.declared.denial.Denial.{Denial}
use Rattle.pf_admit.specs.declared.denial.Denial.TheVariants.{OverCapacity, NotInside, TooEarly, Released}

-- a join of these units is denied where they and the load are above the cap
abbrev pub join_denial : ℕ → ℕ → ℕ → Option Denial
join_denial load units cap = if nat_lt cap (load + units) then Some OverCapacity else None

-- a leave is denied where the task isn't inside, or the slot is below the first in which it may leave
abbrev pub leave_denial : ℕ → Option Member → Option Denial
leave_denial slot None = Some NotInside
leave_denial slot (Some m) = if nat_lt slot (free_from m) then Some TooEarly else None

-- a delay is denied where the task isn't inside, or its next subtask is released below the slot
abbrev pub delay_denial : ℕ → Option Member → Option Denial
delay_denial slot None = Some NotInside
delay_denial slot (Some m) = if nat_lt (next_release m) slot then Some Released else None
