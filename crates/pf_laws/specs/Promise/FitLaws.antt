-- What the fit of a run says of its windows and lags, each the contract of a public function: `first` is the first slot
-- whose load is above its room, or there is none, and `overload` is by how much all loads were above them.
use Rattle.std.specs.Prelude.{◌≡◌, ℕ, ◌+◌, ◌-◌, ◌*◌, ◌≤◌, true, pos, neg_ℤ, ◌<ℤ◌, Option, None, List, [], filter_map, All, Contains}
use Rattle.pf_order.specs.declared.pick.Pick.{Pick}
use Rattle.pf_scenario.specs.Scenario.{Plan}
use Rattle.pf_scenario.specs.Edit.{IsScenario}
use Rattle.pf_run.specs.Record.{Slot}
use Rattle.pf_run.specs.Inside.{Joined, join_of}
use Rattle.pf_run.specs.Run.{events_in_force, IsRun}
use Rattle.pf_tally.specs.Figures.{figures_of}
use Rattle.pf_tally.specs.Fit.{IsFirstAbove}
use Rattle.pf_tally.specs.Load.{overload_of}
use Rattle.pf_tally.specs.Misses.{due_of, misses_of}
use Rattle.pf_tally.specs.declared.fit.Fit.{Fit}
use Rattle.pf_laws.specs.Promise.Overdue.{is_overdue}
use Rattle.pf_laws.specs.Promise.Stay.{IsAdmitted, IsStay, lag_after}

-- at each point of its stay a task that never runs early is less than a quantum behind its fair share, and ahead of it
abbrev pub LagsAreWithinQuantum : Plan → List Slot → Type 0
LagsAreWithinQuantum s r = (j : Joined) (t : ℕ) → IsAdmitted s r j → j.early ≡ 0 → IsStay s r j t →
    (neg_ℤ (pos j.weight.period) <ℤ lag_after s r j t) × (lag_after s r j t <ℤ pos j.weight.period)

-- no window comes later than by as many slots as these units have quanta, whether it was served at the end or not: one that is overdue
-- at slot t comes t + 1 - due slots late at the least
abbrev pub NoneIsLater : Plan → List Slot → ℕ → ℕ → Type 0
NoneIsLater s r n units = (t : ℕ) (j : Joined) (i : ℕ) → t ≤ n → Contains (filter_map (join_of s.settings.base) (events_in_force s r n)) j →
    is_overdue r (events_in_force s r n) j t i ≡ true → s.settings.base * (t + 1 - due_of r (events_in_force s r n) j i) ≤ units

-- the fit is of the run r of the scenario over n slots
pub record IsFitOf (s : Plan) (n : ℕ) (r : List Slot) (fit : Fit) : Type 0 where
  pub scenario : IsScenario s
  pub run : IsRun s n r
  pub first : IsFirstAbove s r n fit.first
  pub overload : fit.overload ≡ overload_of s r n

-- Fits miss none: without a slot whose load is above its room no window is missed.
abbrev pub FitsMissNone : Type 0
FitsMissNone = (s : Plan) (n : ℕ) (r : List Slot) (fit : Fit) → IsFitOf s n r fit → fit.first ≡ None → misses_of s r ≡ []

-- Fits keep lags: without such a slot the lag of a task that never runs early stays within a quantum.
abbrev pub FitsKeepLags : Type 0
FitsKeepLags = (s : Plan) (n : ℕ) (r : List Slot) (fit : Fit) → IsFitOf s n r fit → fit.first ≡ None → LagsAreWithinQuantum s r

-- Overload bounds tardiness: no task is later, in any figures of the run, than by as many slots as the overload that is told
-- has quanta.
abbrev pub OverloadBoundsTardiness : Type 0
OverloadBoundsTardiness = (s : Plan) (n : ℕ) (r : List Slot) (rows : List (List (Option Pick))) (fit : Fit) → IsFitOf s n r fit →
    All (λ f. s.settings.base * f.tardiness ≤ fit.overload) (figures_of s r rows)

-- Overload bounds lateness: no window is, whether it was served at the end or not.
abbrev pub OverloadBoundsLateness : Type 0
OverloadBoundsLateness = (s : Plan) (n : ℕ) (r : List Slot) (fit : Fit) → IsFitOf s n r fit → NoneIsLater s r n fit.overload
