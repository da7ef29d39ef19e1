-- What C gets told of a desk.
use Rattle.std.specs.Prelude.{ℕ, ◌≡◌, ◌⊎◌, ◌<◌, ◌≤◌, ◌++◌, Option, None, Some, List, length, map, drop, pos}
use Rattle.pf_admit.specs.Refusals.{denial_code}
use Rattle.pf_scenario.specs.System.{System}
use Rattle.pf_scenario.specs.declared.event.Numbered.{Numbered}
use Rattle.pf_run.specs.declared.denied.Denied.{Denied}
use Rattle.pf_run.specs.Computed.{run_of}
use Rattle.pf_tally.specs.declared.lag.Lag.{Lag}
use Rattle.pf_tally.specs.declared.miss.Miss.{Miss}
use Rattle.pf_tally.specs.Lags.{lags_of}
use Rattle.pf_tally.specs.Misses.{misses_of}
use Rattle.pf_tally.specs.declared.extremes.Extremes.{Extremes}
use Rattle.pf_tally.specs.declared.figures.Figures.{Figures}
use Rattle.pf_tally.specs.Figures.{figures_of}
use Rattle.pf_desk.specs.Desk.{Shown}
use Rattle.pf_c_api.specs.declared.held.Held.{Held}
use Rattle.pf_c_api.specs.declared.raw_lag.RawLag.{RawLag}
use Rattle.pf_c_api.specs.declared.raw_denial.RawDenial.{RawDenial}
use Rattle.pf_c_api.specs.declared.raw_miss.RawMiss.{RawMiss}
use Rattle.pf_c_api.specs.declared.raw_miss.TheConstants.{NEVER}
use Rattle.pf_c_forms.specs.Events.{raw_event}
use Rattle.pf_c_api.specs.declared.raw_numbered.RawNumbered.{RawNumbered}
use Rattle.pf_c_api.specs.declared.raw_settings.RawSettings.{RawSettings}
use Rattle.pf_c_api.specs.declared.raw_figures.RawFigures.{RawFigures}
use Rattle.pf_c_forms.specs.declared.status.TheConstants.{OK, NOT_OPEN, NO_MEMORY, TOO_SHORT}

abbrev pub raw_lag : Lag → RawLag
raw_lag l = record { task = l.task; cost = l.cost; period = l.period; received = l.received; scaled = l.scaled }

abbrev pub raw_denial : Denied → RawDenial
raw_denial d = record { slot = d.slot; event = d.id; reason = denial_code d.denial }

abbrev pub slot_or_never : Option ℕ → ℕ
slot_or_never None = NEVER
slot_or_never (Some t) = t

abbrev pub raw_miss : Miss → RawMiss
raw_miss m = record { task = m.task; sub = m.sub; deadline = m.deadline; ran = slot_or_never m.ran }

abbrev pub raw_numbered : Numbered → RawNumbered
raw_numbered n = record { id = n.id; event = raw_event n.event }

-- no job has the response 0
abbrev extremes_or_none : Option Extremes → Extremes
extremes_or_none None = record { least = pos 0; greatest = pos 0 }
extremes_or_none (Some extremes) = extremes

abbrev pub raw_figures : Figures → RawFigures
raw_figures f = record {
  task = f.task;
  cost = f.cost;
  period = f.period;
  quanta = f.quanta;
  migrations = f.migrations;
  preemptions = f.preemptions;
  jobs = f.jobs;
  response_least = (extremes_or_none f.response).least;
  response_greatest = (extremes_or_none f.response).greatest;
  missed = f.missed;
  tardiness = f.tardiness;
  scaled_least = f.lag.least;
  scaled_greatest = f.lag.greatest;
}

abbrev pub raw_settings : System → ℕ → RawSettings
raw_settings s every = record { processors = s.processors; base = s.base; cap = s.cap; every = every; horizon = s.horizon }

-- what a call answers of the desk at a handle and its titles: that there is none, or what it says of them
abbrev pub TellsHeld : Option Held → ℕ → (Held → Type 0) → Type 0
TellsHeld None status of_held = status ≡ NOT_OPEN
TellsHeld (Some held) status of_held = of_held held

-- the same of the desk alone
abbrev pub Tells : Option Held → ℕ → (Shown → Type 0) → Type 0
Tells held status of_desk = TellsHeld held status (λ h. of_desk h.desk)

-- the caller's room has the list at its front and is else as before; or it is too short, and as before. The count is that
-- of the list
abbrev pub FillsRoom : {Y : Type 0} → List Y → ℕ → ℕ → List Y → List Y → Type 0
FillsRoom list status count room filled =
    (count ≡ length list)
    × (((status ≡ OK) × (length list ≤ length room) × (filled ≡ list ++ drop (length list) room))
    ⊎ ((status ≡ TOO_SHORT) × (length room < length list) × (filled ≡ room)))

-- the same where the list takes memory to make
abbrev pub MayFillRoom : {Y : Type 0} → List Y → ℕ → ℕ → List Y → List Y → Type 0
MayFillRoom list status count room filled = (status ≡ NO_MEMORY) ⊎ FillsRoom list status count room filled

-- where a call writes nothing, the room is as before, and where the room is not too short the count too
abbrev pub LeavesRest : {Y : Type 0} → ℕ → ℕ → ℕ → List Y → List Y → Type 0
LeavesRest status was count room filled = (status ≡ OK → ⊥) → (filled ≡ room) × ((status ≡ TOO_SHORT → ⊥) → count ≡ was)

abbrev pub lags_now : Shown → List RawLag
lags_now d = map raw_lag (lags_of d.state.plan (run_of d.state.plan d.state.now))

abbrev pub misses_now : Shown → List RawMiss
misses_now d = map raw_miss (misses_of d.state.plan (run_of d.state.plan d.state.now))

abbrev pub denials_now : Shown → List RawDenial
denials_now d = map raw_denial d.denials

abbrev pub figures_now : Shown → List RawFigures
figures_now d = map raw_figures (figures_of d.state.plan (run_of d.state.plan d.state.now) d.rows)

abbrev pub events_now : Shown → List RawNumbered
events_now d = map raw_numbered d.state.plan.events
