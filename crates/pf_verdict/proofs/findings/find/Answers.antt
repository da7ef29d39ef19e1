use Rattle.std.proofs.Common.{◌≡◌, ◌∙◌, ◌*◌, ◌<◌, ◌≤◌, ◌^◌, ap, ap₂, sym, subst, length, sum_by, List, All}
use Rattle.pf_run.specs.Computed.{run_of}
use Rattle.pf_tally.specs.declared.figures.Figures.{Figures}
use Rattle.pf_laws.specs.Promise.FitLaws.{IsFitOf}
use Rattle.pf_laws.proofs.PromiseLemmas.FitLaws.{fit_of_run, overload_bounds_tardiness, overload_bounds_lateness}
use Rattle.pf_verdict.specs.Carries.{carries_cap}
use Rattle.pf_verdict.specs.Findings.{Found, grounds_of}
use Rattle.pf_verdict.specs.Strain.{strain_of}
use Rattle.pf_verdict.specs.Stretches.{IsEven}
use Rattle.pf_verdict.specs.Verdict.{unreached_of, verdict_of}
use Rattle.pf_verdict.specs.declared.strain.Strain.{Strain}
use Rattle.pf_verdict.specs.declared.stretch.Stretch.{Stretch}
use Rattle.pf_verdict.specs.declared.totals.Totals.{Totals}
use Rattle.pf_verdict.specs.declared.verdict.Grounds.{Grounds}
use Rattle.pf_verdict.proofs.Few.{few_units}
use Rattle.pf_verdict.proofs.Found.{fits_settled, none_above, none_later}
use Rattle.pf_verdict.proofs.Periods.{periods}
use Rattle.pf_verdict.proofs.findings.find.Goals as goal

strain_is : (c : goal.After-drop-stretches-2) → c.strain_of-strain.result ≡ strain_of c.args.snapshot.now.state.plan (run_of c.args.snapshot.now.state.plan c.args.snapshot.now.state.now) c.args.snapshot.now.state.now
strain_is c =
    let s = c.args.snapshot.now.state.plan in
    let n = c.args.snapshot.now.state.now in
    c.strain_of-strain.ensures s (run_of s n)
    (subst (λ (xs : List Stretch). All (IsEven s (run_of s n)) xs) (sym c.deref.ensures.value) c.in_ok-stretches.ensures.even)
    ∙ ap (strain_of s (run_of s n)) c.now-now.ensures.value

missed_is : (c : goal.After-drop-stretches-2) → c.totals_of.result.missed ≡ (grounds_of c.args.snapshot.now c.args.refused).missed
missed_is c =
    ap (λ (t : Totals). t.missed) c.totals_of.ensures
    ∙ ap (λ (fs : List Figures). sum_by (λ (f : Figures). f.missed) fs) (c.deref-3.ensures.value ∙ c.in_ok-figures.ensures)

pub returns-clause-found : goal.returns-clause-found
returns-clause-found c =
    let seen = c.args.snapshot.now in
    let refused = c.args.refused in
    let denied = ap length c.denials.ensures in
    let unreached = c.unreached-unreached.ensures ∙ ap₂ unreached_of c.scenario-scenario.ensures c.now-now.ensures.value in
    let strain = strain_is c in
    let missed = missed_is c in
    let units = c.in_ok-fit.ensures.overload in
    let carries = c.carries_cap-carries.ensures.value ∙ ap carries_cap c.scenario-scenario.ensures in
    let figures = c.in_ok-figures.ensures in
    let grows = c.in_ok-grows.ensures in
    let grounds : c.verdict_of-verdict.result ≡ verdict_of (grounds_of seen refused) =
    c.verdict_of-verdict.ensures
    ∙ (λ i. verdict_of (record { refused = refused; denied = denied i; missed = missed i; above = (strain i).above; unreached = unreached i })) in
    λ i. let found : Found = record {
      verdict = grounds i;
      refused = refused;
      denied = denied i;
      unreached = unreached i;
      strain = strain i;
      units = units i;
      carries = carries i;
      figures = figures i;
      grows = grows i;
    } in found

pub returns-clause-within : goal.returns-clause-within
returns-clause-within c =
    λ none. none_above c.args.snapshot.now c.now-now.ensures.of_run (sym (ap (λ (y : Strain). y.above) (strain_is c)) ∙ none)

abbrev grounds_found : goal.After-drop-stretches-2 → Grounds
grounds_found c = record {
  refused = c.args.refused;
  denied = length c.denials.result.now;
  missed = c.totals_of.result.missed;
  above = c.strain_of-strain.result.above;
  unreached = c.unreached-unreached.result;
}

pub returns-clause-fits : goal.returns-clause-fits
returns-clause-fits c =
    λ fits.
    returns-clause-within c (fits_settled (grounds_found c) (sym c.verdict_of-verdict.ensures ∙ fits))

pub returns-clause-later : goal.returns-clause-later
returns-clause-later c =
    λ carries. none_later c.args.snapshot.now.state.plan (let are = c.now-now.ensures.of_run in are.scenario)
    (sym (c.carries_cap-carries.ensures.value ∙ ap carries_cap c.scenario-scenario.ensures) ∙ carries)

fit_is : (c : goal.After-drop-stretches-2) → IsFitOf c.args.snapshot.now.state.plan c.args.snapshot.now.state.now
    (run_of c.args.snapshot.now.state.plan c.args.snapshot.now.state.now) c.in_ok-fit.fit
fit_is c =
    let are = c.now-now.ensures.of_run in
    fit_of_run c.args.snapshot.now.state.plan c.args.snapshot.now.state.now c.in_ok-fit.fit are.scenario
    c.in_ok-fit.ensures.first c.in_ok-fit.ensures.overload

pub returns-clause-late : goal.returns-clause-late
returns-clause-late c =
    let seen = c.args.snapshot.now in
    subst (λ (fs : List Figures). All (λ (g : Figures). seen.state.plan.settings.base * g.tardiness ≤ c.in_ok-fit.fit.overload) fs)
    (sym c.in_ok-figures.ensures)
    (overload_bounds_tardiness seen.state.plan seen.state.now (run_of seen.state.plan seen.state.now) seen.rows c.in_ok-fit.fit (fit_is c))

pub returns-clause-overdue : goal.returns-clause-overdue
returns-clause-overdue c =
    let seen = c.args.snapshot.now in
    overload_bounds_lateness seen.state.plan seen.state.now (run_of seen.state.plan seen.state.now) c.in_ok-fit.fit (fit_is c)

pub returns-clause-periods : goal.returns-clause-periods
returns-clause-periods c =
    subst (λ (fs : List Figures). All (λ (g : Figures). 1 ≤ g.period) fs) (sym c.in_ok-figures.ensures)
    (periods c.args.snapshot.now c.now-now.ensures.of_run)

pub returns-clause-few : goal.returns-clause-few
returns-clause-few c =
    subst (λ units. units < 2 ^ 100) (sym c.in_ok-fit.ensures.overload) (few_units c.args.snapshot.now c.now-now.ensures.of_run)
