-- Jobs that arrive in time and are released in slots.
use Rattle.std.specs.Prelude.{ℕ, ◌+◌, ◌*◌, ◌/◌, ◌<◌, ◌≤◌}
use Rattle.std.specs.Int.{div_ceil}
use Rattle.pf_convert.specs.Slots.{IsLongestPeriod}
use Rattle.pf_convert.specs.declared.words.arrivals.Arrivals.{Arrivals}
use Rattle.pf_convert.specs.declared.words.arrivals.Arrivals.TheVariants.{Aligned, Any}

-- the first slot that begins no sooner than the time
abbrev pub slot_from : ℕ → ℕ → ℕ
slot_from quantum time = div_ceil time quantum

-- jobs that arrive `every` apart are released at least as many slots apart as their period has
abbrev pub ArrivalsStayApart : Type 0
ArrivalsStayApart = (quantum every time : ℕ) → 1 ≤ quantum → slot_from quantum time + every / quantum ≤ slot_from quantum (time + every)

-- a job that is done within a period of slots from its release is done less than that and a slot after it arrived
abbrev pub ArrivalsWaitLessThanASlot : Type 0
ArrivalsWaitLessThanASlot = (quantum period time : ℕ) → 1 ≤ quantum → (slot_from quantum time + period) * quantum < time + (period + 1) * quantum

-- so are jobs that are due no later than the next one arrives, with a period that is no longer than what they are due
abbrev pub ReleasesStayApart : Type 0
ReleasesStayApart =
    (arrivals : Arrivals) (quantum due every longest period time : ℕ) → 1 ≤ quantum → due ≤ every → IsLongestPeriod arrivals quantum due longest → period ≤ longest
    → slot_from quantum time + period ≤ slot_from quantum (time + every)

-- a job that arrives as a slot begins, and is done within its period of slots, is done when it is due
abbrev pub AlignedJobsAreDoneInTime : Type 0
AlignedJobsAreDoneInTime =
    (quantum due longest period slot : ℕ) → IsLongestPeriod Aligned quantum due longest → period ≤ longest → (slot + period) * quantum ≤ slot * quantum + due

-- a job that arrives at any time, is released in the first slot that begins no sooner, and is done within its period of slots
-- from there, is done before it is due
abbrev pub JobsAreDoneInTime : Type 0
JobsAreDoneInTime =
    (quantum due longest period time : ℕ) → 1 ≤ quantum → IsLongestPeriod Any quantum due longest → period ≤ longest
    → (slot_from quantum time + period) * quantum < time + due
