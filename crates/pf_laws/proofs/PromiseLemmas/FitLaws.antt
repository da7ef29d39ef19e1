-- What the fit of a run says of its windows and lags, by the laws of those.
use Rattle.std.proofs.Common.{◌≡◌, ℕ, ◌*◌, ◌≤◌, ◌&&◌, nat_le, nat_lt, None, List, All, arith, sym, subst}
use Rattle.std.proofs.lemmas.Bool.{and_parts, leb-true}
use Rattle.pf_scenario.specs.Scenario.{Plan}
use Rattle.pf_scenario.specs.Edit.{IsScenario}
use Rattle.pf_run.specs.Record.{Slot, done}
use Rattle.pf_run.specs.Run.{events_in_force}
use Rattle.pf_run.specs.Computed.{run_of}
use Rattle.pf_run.proofs.Runs.{run_is_computed}
use Rattle.pf_tally.specs.Figures.{figures_of}
use Rattle.pf_tally.specs.Fit.{IsFirstAbove}
use Rattle.pf_laws.specs.Promise.Laws.{IsWithinRoom}
use Rattle.pf_tally.specs.Load.{overload_of}
use Rattle.pf_tally.specs.Misses.{due_of, leaves_after}
use Rattle.pf_tally.specs.declared.fit.Fit.{Fit}
use Rattle.pf_laws.specs.Promise.FitLaws.{IsFitOf, FitsMissNone, FitsKeepLags, OverloadBoundsTardiness, OverloadBoundsLateness}
use Rattle.pf_laws.proofs.PromiseLemmas.Promises.{no_window_is_missed, overload-rises}
use Rattle.pf_laws.proofs.PromiseLemmas.Tardiness.{tardiness_is_bounded}
use Rattle.pf_laws.proofs.PromiseLemmas.Waiting.{lateness_costs_quanta}
use Rattle.pf_laws.proofs.PromiseLemmas.Within.{lags_are_within}

-- Use: what `fits` answers of a scenario's run.
pub fit_of_run : (s : Plan) (n : ℕ) (fit : Fit) → IsScenario s → IsFirstAbove s (run_of s n) n fit.first →
    fit.overload ≡ overload_of s (run_of s n) n → IsFitOf s n (run_of s n) fit
fit_of_run s n fit scenario first overload =
    record { scenario = scenario; run = run_is_computed s n scenario; first = first; overload = overload }

within_room : (s : Plan) (n : ℕ) (r : List Slot) (fit : Fit) → IsFitOf s n r fit → fit.first ≡ None → IsWithinRoom s r
within_room s n r fit is none t lt =
    let all : IsFirstAbove s r n None = subst (IsFirstAbove s r n) none is.first in
    all t (omega (arith, lt, is.run.slots))

pub fits_miss_none : FitsMissNone
fits_miss_none s n r fit is none = no_window_is_missed s n r is.scenario is.run (within_room s n r fit is none)

pub fits_keep_lags : FitsKeepLags
fits_keep_lags s n r fit is none j t at never_early stay =
    lags_are_within s n r j t is.scenario is.run (within_room s n r fit is none) at never_early stay

pub overload_bounds_tardiness : OverloadBoundsTardiness
overload_bounds_tardiness s n r rows fit is =
    subst (λ x. All (λ f. s.settings.base * f.tardiness ≤ x) (figures_of s r rows)) (sym is.overload)
    (tardiness_is_bounded s n r rows is.scenario is.run)

pub overload_bounds_lateness : OverloadBoundsLateness
overload_bounds_lateness s n r fit is t j i upto inside overdue =
    let xs = events_in_force s r n in
    let due = due_of r xs j i in
    let parts = and_parts (nat_le due t && leaves_after xs j t) (nat_lt (done r j.task t) i) overdue in
    let over : due ≤ t = leb-true due t (and_parts (nat_le due t) (leaves_after xs j t) parts.0).0 in
    omega (
      arith,
      is.overload,
      lateness_costs_quanta s n r t j i is.scenario is.run upto inside overdue,
      overload-rises s r due n (omega (arith, over, upto)),
    )
