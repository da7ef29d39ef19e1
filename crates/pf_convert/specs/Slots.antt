-- A task in time, in slots of a quantum.
use Rattle.std.specs.Prelude.{◌+◌, ◌-◌, ◌/◌, ◌<◌, ◌≤◌, ◌==◌, Bool, false, nat_lt, nat_le, if◌then◌else◌, IfSome, unwrap_or, ℕ, Result, Ok, Err}
use Rattle.std.specs.Int.{div_ceil}
use Rattle.pf_scenario.specs.declared.limits.TheConstants.{MOST_EARLY}
use Rattle.pf_scenario.specs.declared.settings.TheConstants.{WIDE_HORIZON}
use Rattle.pf_convert.specs.Counting.{IsMostWithin}
use Rattle.pf_convert.specs.declared.words.arrivals.Arrivals.{Arrivals}
use Rattle.pf_convert.specs.declared.words.arrivals.Arrivals.TheVariants.{Aligned, Any}
use Rattle.pf_convert.specs.declared.quantum.TheConstants.{LONGEST_QUANTUM}
use Rattle.pf_convert.specs.declared.quantum.Quantum.{Quantum}
use Rattle.pf_convert.specs.declared.slot_fault.SlotFault.{SlotFault}
use Rattle.pf_convert.specs.declared.slot_fault.SlotFault.TheVariants.{DueTooSoon, CostAbovePeriod, JoinBeyondHorizon, TooEarly, BeforeArrival}
use Rattle.pf_convert.specs.declared.slotted.Slotted.{Slotted}
use Rattle.pf_convert.specs.declared.timed.TheConstants.{TIME_LIMIT}
use Rattle.pf_convert.specs.declared.timed.Timed.{Timed}

-- a quantum is 1 ns to 1 s long, and longer than a switch takes
pub record IsQuantum (q : Quantum) : Type 0 where
  pub switch : q.switch < q.length
  pub length : q.length ≤ LONGEST_QUANTUM

-- times are below their limit; a job takes some, some lies between two, and a job is due before the next one
pub record IsTimed (t : Timed) : Type 0 where
  pub works : 1 ≤ t.work
  pub work : t.work < TIME_LIMIT
  pub comes : 1 ≤ t.every
  pub every : t.every < TIME_LIMIT
  pub due : IfSome t.deadline (λ d. (1 ≤ d) × (d ≤ t.every))
  pub first : t.first < TIME_LIMIT
  pub early : t.early < TIME_LIMIT

-- how long after its arrival a job is to be done
abbrev pub due_of : Timed → ℕ
due_of t = unwrap_or t.deadline t.every

-- what holds of a task in slots
pub record IsSlotted (s : Slotted) : Type 0 where
  pub some : 1 ≤ s.cost
  pub within : s.cost ≤ s.period
  pub short : s.period < TIME_LIMIT
  pub join : s.join < WIDE_HORIZON
  pub early : s.early ≤ MOST_EARLY

-- the slots from a job's release until it is due: where jobs arrive at any time, most of a slot may pass before the release
abbrev pub period_of : Arrivals → ℕ → ℕ → ℕ
period_of Aligned quantum due = due / quantum
period_of Any quantum due = due / quantum - 1

-- so many slots lie between a release and what a job is due, and no more do
abbrev pub IsLongestPeriod : Arrivals → ℕ → ℕ → ℕ → Type 0
IsLongestPeriod Aligned quantum due period = IsMostWithin due quantum period
IsLongestPeriod Any quantum due period = IsMostWithin due quantum (period + 1)

-- a job's quanta and its join are rounded up, so that none of its work is lost and none is done before it comes; the
-- slots of its period and before a window are rounded down
abbrev pub slots_of : Quantum → Arrivals → Timed → Slotted
slots_of q arrivals t = record {
  cost = div_ceil t.work (q.length - q.switch);
  period = period_of arrivals q.length (due_of t);
  join = div_ceil t.first q.length;
  early = t.early / q.length;
}

-- a job that arrives at any time does so in the slot before its release
abbrev pub runs_before_arrival : Arrivals → ℕ → Bool
runs_before_arrival Aligned early = false
runs_before_arrival Any early = nat_lt 0 early

-- the first test that these slots fail
abbrev pub checked_slots : Arrivals → Slotted → Result Slotted SlotFault
checked_slots arrivals s =
    if s.period == 0 then Err DueTooSoon
    else if nat_lt s.period s.cost then Err (CostAbovePeriod s.cost s.period)
    else if nat_le WIDE_HORIZON s.join then Err (JoinBeyondHorizon s.join)
    else if nat_lt MOST_EARLY s.early then Err (TooEarly s.early)
    else if runs_before_arrival arrivals s.early then Err BeforeArrival
    else Ok s

abbrev pub slots_or_fault : Quantum → Arrivals → Timed → Result Slotted SlotFault
slots_or_fault q arrivals t = checked_slots arrivals (slots_of q arrivals t)
