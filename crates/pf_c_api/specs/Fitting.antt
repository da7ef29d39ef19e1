-- Whether what was planned fits the processors, as C gets it.
use Rattle.std.specs.Prelude.{ℕ, ◌≡◌, ◌⊎◌, ◌↔◌, ◌≤◌, ◌+◌, ◌*◌, ◌^◌, ◌==◌, if◌then◌else◌, Bool, IsTrue, Option, None, Some, [], All}
use Rattle.pf_run.specs.Computed.{run_of}
use Rattle.pf_tally.specs.Misses.{misses_of}
use Rattle.pf_tally.specs.Figures.{figures_of}
use Rattle.pf_tally.specs.Load.{overload_of}
use Rattle.pf_tally.specs.Fit.{IsFirstAbove}
use Rattle.pf_tally.specs.Room.{CarriesCap, MissesNone}
use Rattle.pf_laws.specs.Promise.FitLaws.{NoneIsLater}
use Rattle.pf_desk.specs.Machine.{State}
use Rattle.pf_desk.specs.Room.{MissesNoneAfter}
use Rattle.pf_desk.specs.Desk.{Shown}
use Rattle.pf_c_api.specs.declared.raw_fit.RawFit.{RawFit}
use Rattle.pf_c_api.specs.declared.raw_miss.TheConstants.{NEVER}
use Rattle.pf_c_forms.specs.declared.status.TheConstants.{OK, NO_MEMORY}

-- the slot that C is told, or none
abbrev pub first_told : RawFit → Option ℕ
first_told fit = if fit.first == NEVER then None else Some fit.first

-- the overload that C is told, in units of 1/h: its words are the two digits of base 2^64
abbrev pub overload_told : RawFit → ℕ
overload_told fit = fit.overload_high * 2 ^ 64 + fit.overload_low

-- the fit of the run so far: the first slot above its room and the overload; without such a slot nothing was missed, and
-- base times no tardiness is above the overload, nor that of a window that was not served
pub record IsFitOf (d : Shown) (fit : RawFit) : Type 0 where
  pub first : IsFirstAbove d.state.plan (run_of d.state.plan d.state.now) d.state.now (first_told fit)
  pub overload : overload_told fit ≡ overload_of d.state.plan (run_of d.state.plan d.state.now) d.state.now
  pub none : fit.first ≡ NEVER → misses_of d.state.plan (run_of d.state.plan d.state.now) ≡ []
  pub late : All (λ f. d.state.plan.settings.base * f.tardiness ≤ overload_told fit)
      (figures_of d.state.plan (run_of d.state.plan d.state.now) d.rows)
  pub overdue : NoneIsLater d.state.plan (run_of d.state.plan d.state.now) d.state.now (overload_told fit)

-- C has the fit of the run so far; or memory was refused
abbrev pub TellsFit : Shown → ℕ → RawFit → Type 0
TellsFit d status fit = (status ≡ NO_MEMORY) ⊎ ((status ≡ OK) × IsFitOf d fit)

-- it is told whether the processors carry the cap; and where they do, no window is missed, of this plan and of each that
-- further commands within that room lead to
pub record TellsRoom (st : State) (never : Bool) : Type 0 where
  pub value : IsTrue never ↔ CarriesCap st.plan
  pub none : IsTrue never → MissesNone st.plan
  pub after : IsTrue never → MissesNoneAfter st
