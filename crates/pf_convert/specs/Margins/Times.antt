-- Times that give periods.
use Rattle.std.specs.Prelude.{ℕ, ◌+◌, ◌*◌, ◌≡◌, ◌≤◌, Some}
use Rattle.std.specs.Int.{div_ceil}
use Rattle.pf_convert.specs.declared.quantum.Quantum.{Quantum}
use Rattle.pf_convert.specs.declared.timed.Timed.{Timed}
use Rattle.pf_convert.specs.declared.words.arrivals.Arrivals.{Arrivals}
use Rattle.pf_convert.specs.declared.words.arrivals.Arrivals.TheVariants.{Aligned, Any}
use Rattle.pf_convert.specs.Margins.Periods.{with_period}
use Rattle.pf_convert.specs.Slots.{period_of, slots_of}

-- the time of a period, and of the slot in which a job may arrive before its release
abbrev pub time_of : Arrivals → ℕ → ℕ → ℕ
time_of Aligned quantum period = period * quantum
time_of Any quantum period = (period + 1) * quantum

-- the least time within which a job may be due whose task gets this period, and a task that has it gets it
pub record IsTimeOf (arrivals : Arrivals) (q : Quantum) (period time : ℕ) : Type 0 where
  pub gives : period_of arrivals q.length time ≡ period
  pub least : (due : ℕ) → period ≤ period_of arrivals q.length due → time ≤ due
  pub slots : (t : Timed) → slots_of q arrivals (record t { deadline = Some time }) ≡ with_period (slots_of q arrivals t) period

abbrev pub TimesGivePeriods : Type 0
TimesGivePeriods = (arrivals : Arrivals) (q : Quantum) (period : ℕ) → 1 ≤ q.length → 1 ≤ period → IsTimeOf arrivals q period (time_of arrivals q.length period)
