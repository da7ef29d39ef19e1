use Rattle.std.proofs.Common.{◌≡◌, subst}
use Rattle.pf_run.specs.Computed.{run_of}
use Rattle.pf_run.specs.RunRows.{AreOfRun}
use Rattle.pf_tally.specs.Fit.{IsFirstAbove}
use Rattle.pf_tally.specs.Load.{overload_of}
use Rattle.pf_tally.specs.declared.fit.Fit.{Fit}
use Rattle.pf_laws.specs.Promise.FitLaws.{IsFitOf}
use Rattle.pf_laws.proofs.PromiseLemmas.FitLaws.{fit_of_run, fits_miss_none, overload_bounds_tardiness, overload_bounds_lateness}
use Rattle.pf_desk.specs.Desk.{Seen, seen_of}
use Rattle.pf_c_api.proofs.fitting.fits.Goals as goal

abbrev IsFitOfSeen : Seen → Fit → Type 0
IsFitOfSeen seen fit = IsFitOf seen.state.plan seen.state.now (run_of seen.state.plan seen.state.now) fit

fit_of : (seen shown : Seen) (fit : Fit) → seen ≡ shown → AreOfRun seen.state.plan seen.state.now seen.rows seen.denials →
    IsFirstAbove seen.state.plan (run_of seen.state.plan seen.state.now) seen.state.now fit.first →
    fit.overload ≡ overload_of seen.state.plan (run_of seen.state.plan seen.state.now) seen.state.now → IsFitOfSeen shown fit
fit_of seen shown fit same are first overload =
    subst (λ d. IsFitOfSeen d fit) same (fit_of_run seen.state.plan seen.state.now fit are.scenario first overload)

pub returns-clause-none : goal.returns-clause-none
returns-clause-none c =
    λ none. let fit = c.in_ok-fit.fit in
    let of = fit_of c.in_ok-snapshot.snapshot (seen_of c.args.desk.now) fit c.in_ok-snapshot.ensures.shown c.in_ok-fit.ensures.of_run
    c.in_ok-fit.ensures.first c.in_ok-fit.ensures.overload in
    fits_miss_none _ _ _ fit of none

pub returns-clause-late : goal.returns-clause-late
returns-clause-late c =
    let fit = c.in_ok-fit.fit in
    let of = fit_of c.in_ok-snapshot.snapshot (seen_of c.args.desk.now) fit c.in_ok-snapshot.ensures.shown c.in_ok-fit.ensures.of_run
    c.in_ok-fit.ensures.first c.in_ok-fit.ensures.overload in
    overload_bounds_tardiness _ _ _ c.args.desk.now.rows fit of

pub returns-clause-overdue : goal.returns-clause-overdue
returns-clause-overdue c =
    let fit = c.in_ok-fit.fit in
    let of = fit_of c.in_ok-snapshot.snapshot (seen_of c.args.desk.now) fit c.in_ok-snapshot.ensures.shown c.in_ok-fit.ensures.of_run
    c.in_ok-fit.ensures.first c.in_ok-fit.ensures.overload in
    overload_bounds_lateness _ _ _ fit of
