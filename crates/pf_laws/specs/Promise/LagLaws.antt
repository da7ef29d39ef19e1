-- The laws of lags, each the contract of a public function.
use Rattle.std.specs.Prelude.{◌≡◌, ℕ, ◌+◌, ◌*◌, ◌<◌, pos, neg_ℤ, ◌<ℤ◌, ◌↔◌, Option, List, length, All}
use Rattle.std.specs.List.{Contains}
use Rattle.pf_order.specs.declared.pick.Pick.{Pick}
use Rattle.pf_scenario.specs.Scenario.{Plan}
use Rattle.pf_scenario.specs.Edit.{IsScenario}
use Rattle.pf_run.specs.Record.{Slot, done}
use Rattle.pf_run.specs.Inside.{Joined}
use Rattle.pf_run.specs.Run.{events_in_force, IsRun}
use Rattle.pf_tally.specs.Clock.{clock_of}
use Rattle.pf_tally.specs.Misses.{misses_of_task}
use Rattle.pf_tally.specs.declared.miss.Miss.{Miss}
use Rattle.pf_tally.specs.Figures.{figures_of}
use Rattle.pf_tally.specs.Load.{overload_of}
use Rattle.pf_laws.specs.Promise.Laws.{IsWithinRoom}
use Rattle.pf_laws.specs.Promise.Stay.{IsAdmitted, IsStay, lag_after}

-- Lags are above: no task is ever ahead of its fair share by a quantum and what its early slots are worth.
abbrev pub LagsAreAbove : Type 0
LagsAreAbove = (s : Plan) (n : ℕ) (r : List Slot) (j : Joined) (t : ℕ) → IsScenario s → IsRun s n r → IsAdmitted s r j →
    IsStay s r j t → neg_ℤ (pos (j.weight.period + j.weight.cost * j.early)) <ℤ lag_after s r j t

-- Lags are below: before a slot t up to which a task missed no window it is behind its fair share by less than a quantum.
abbrev pub LagsAreBelow : Type 0
LagsAreBelow = (s : Plan) (n : ℕ) (r : List Slot) (j : Joined) (t : ℕ) → IsScenario s → IsRun s n r → IsAdmitted s r j →
    IsStay s r j t → ((m : Miss) → Contains (misses_of_task r (events_in_force s r (length r)) j) m → t < m.deadline) →
    lag_after s r j t <ℤ pos j.weight.period

-- Lags cost quanta: a task is behind its fair share by less than a quantum and what the overload so far has, whatever was
-- missed: base * lag is below period * (base + overload).
abbrev pub LagsCostQuanta : Type 0
LagsCostQuanta = (s : Plan) (n : ℕ) (r : List Slot) (j : Joined) (t : ℕ) → IsScenario s → IsRun s n r → IsAdmitted s r j →
    IsStay s r j t → s.settings.base * (j.weight.cost * clock_of r (events_in_force s r (length r)) j t)
    < s.settings.base * (j.weight.period * done r j.task t) + j.weight.period * (s.settings.base + overload_of s r t)

-- Misses show in lags: a task missed no window exactly where its greatest lag is below a quantum.
abbrev pub MissesShowInLags : Type 0
MissesShowInLags = (s : Plan) (n : ℕ) (r : List Slot) (rows : List (List (Option Pick))) → IsScenario s → IsRun s n r →
    All (λ f. (f.missed ≡ 0) ↔ (f.lag.greatest <ℤ pos f.period)) (figures_of s r rows)

-- Lags are within: where the load is within the processors in use, in each slot, the lag of a task that runs no subtask
-- early stays between a quantum behind and a quantum ahead.
abbrev pub LagsAreWithin : Type 0
LagsAreWithin = (s : Plan) (n : ℕ) (r : List Slot) (j : Joined) (t : ℕ) → IsScenario s → IsRun s n r → IsWithinRoom s r →
    IsAdmitted s r j → j.early ≡ 0 → IsStay s r j t →
    (neg_ℤ (pos j.weight.period) <ℤ lag_after s r j t) × (lag_after s r j t <ℤ pos j.weight.period)
