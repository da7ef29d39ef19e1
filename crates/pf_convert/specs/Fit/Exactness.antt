-- Whether margins are exact, and else the first reason that they are not.
use Rattle.std.specs.Prelude.{ℕ, ◌*◌, ◌&&◌, Bool, true, false, not, nat_lt, if◌then◌else◌, List}
use Rattle.std.specs.List.{list_all, count_by}
use Rattle.pf_convert.specs.declared.fit.exactness.Exactness.{Exactness}
use Rattle.pf_convert.specs.declared.fit.exactness.Exactness.TheVariants.{Exact, AnyArrivals, EarlyDeadlines, CommonBase, WholeQuanta}
use Rattle.pf_convert.specs.declared.fit.shown_task.ShownTask.{ShownTask}
use Rattle.pf_convert.specs.declared.margins.least_period.LeastPeriod.{LeastPeriod}
use Rattle.pf_convert.specs.declared.margins.least_period.LeastPeriod.TheVariants.{NoRoom, OfAll, OfDivisors}
use Rattle.pf_convert.specs.declared.words.arrivals.Arrivals.{Arrivals}
use Rattle.pf_convert.specs.declared.words.arrivals.Arrivals.TheVariants.{Aligned, Any}
use Rattle.pf_convert.specs.Slots.{due_of}

-- its jobs are due before the next ones arrive
abbrev pub is_due_early : ShownTask → Bool
is_due_early t = nat_lt (due_of t.times) t.times.every

abbrev pub is_of_divisors : LeastPeriod → Bool
is_of_divisors NoRoom = false
is_of_divisors (OfAll period) = false
is_of_divisors (OfDivisors period) = true

-- its windows are shorter than the time between its jobs
abbrev pub is_drifting : ℕ → ShownTask → Bool
is_drifting quantum t = nat_lt (t.slots.period * quantum) t.times.every

-- that of a plan whose base is, or is not, the least common multiple, and whose jobs arrive as slots begin
abbrev pub aligned_exactness : ℕ → Bool → List ShownTask → Exactness
aligned_exactness quantum exact tasks =
    if not (list_all (λ t. not (is_due_early t)) tasks) then EarlyDeadlines
    else if not (exact && list_all (λ t. not (is_of_divisors t.margin.least)) tasks) then CommonBase
    else if not (list_all (λ t. not (is_drifting quantum t)) tasks) then WholeQuanta
    else Exact

abbrev pub exactness_of : Arrivals → ℕ → Bool → List ShownTask → Exactness
exactness_of Any quantum exact tasks = AnyArrivals
exactness_of Aligned quantum exact tasks = aligned_exactness quantum exact tasks

abbrev pub is_exact : Exactness → Bool
is_exact Exact = true
is_exact AnyArrivals = false
is_exact EarlyDeadlines = false
is_exact CommonBase = false
is_exact WholeQuanta = false
