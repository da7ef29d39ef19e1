-- What a fit rests on, by its parts; and what follows.
use Rattle.std.proofs.Common.{◌≡◌, ℕ, zero, suc, ◌+◌, ◌*◌, ◌<◌, ◌≤◌, ◌==◌, Bool, true, false, nat_le, if◌then◌else◌, List, [], get_or, refl, subst, arith, ⊎_elim}
use Rattle.std.specs.List.{list_all}
use Rattle.std.proofs.lemmas.Bool.{and_parts, cases_lt, eqb-true, leb-true, ltb-false}
use Rattle.std.proofs.lemmas.List.Sums.{AllPass-from_list_all}
use Rattle.pf_scenario.specs.Scenario.{Plan}
use Rattle.pf_scenario.specs.System.{System}
use Rattle.pf_scenario.specs.Edit.{IsScenario}
use Rattle.pf_scenario.specs.declared.event.Event.{Event}
use Rattle.pf_scenario.specs.declared.event.Event.TheVariants.{Join, Leave, Delay, Limit}
use Rattle.pf_scenario.specs.declared.event.Numbered.{Numbered}
use Rattle.pf_run.specs.Record.{Slot}
use Rattle.pf_run.specs.Computed.{run_of}
use Rattle.pf_run.specs.RunRows.{AreOfRun}
use Rattle.pf_run.specs.Run.{IsRun}
use Rattle.pf_run.proofs.Runs.{run_is_computed}
use Rattle.pf_tally.specs.Misses.{misses_of}
use Rattle.pf_tally.specs.Load.{load_in, room_in}
use Rattle.pf_tally.specs.Room.{LeavesRoom, MissesNone}
use Rattle.pf_laws.proofs.PromiseLemmas.Promises.{no_window_is_missed}
use Rattle.pf_laws.proofs.PromiseLemmas.Settings.{settings_suffice}
use Rattle.pf_desk.specs.Desk.{Seen}
use Rattle.pf_verdict.specs.declared.verdict.Grounds.{Grounds}
use Rattle.pf_verdict.specs.declared.verdict.Verdict.TheVariants.{Fits, FitsSoFar, DoesNotFit}
use Rattle.pf_verdict.specs.Carries.{carries_cap, carries_with}
use Rattle.pf_verdict.specs.Strain.{above_of, is_above}
use Rattle.pf_verdict.specs.Verdict.{is_clean, is_settled, verdict_of}

leaves_room : (settings : System) (event : Event) → carries_with settings event ≡ true → LeavesRoom settings event
leaves_room settings (Limit slot count) carries = leb-true settings.cap (settings.base * count) carries
leaves_room settings (Join slot task cost period early) carries = tt
leaves_room settings (Leave slot task) carries = tt
leaves_room settings (Delay slot task by) carries = tt

-- Use: the processors carry the cap.
pub none_later : (s : Plan) → IsScenario s → carries_cap s ≡ true → MissesNone s
none_later s scenario carries n r run =
    let test : Numbered → Bool = λ x. carries_with s.settings x.event in
    let parts = and_parts (nat_le s.settings.cap (s.settings.base * s.settings.processors)) (list_all test s.events) carries in
    settings_suffice s n r scenario run (leb-true s.settings.cap (s.settings.base * s.settings.processors) parts.0)
    (λ k d lt. leaves_room s.settings (get_or s.events k d).event (AllPass-from_list_all test s.events parts.1 k d lt))

above_each : (s : Plan) (r : List Slot) (n t : ℕ) → t < n → above_of s r n ≡ 0 → is_above s r t ≡ false
unfolding above_of
above_each s r zero t lt none = absurd (omega (arith, lt))
above_each s r (suc n) t lt none = ⊎_elim
    (λ (old : t < n). above_each s r n t old (omega (arith, none)))
    (λ (ge : n ≤ t).
    let z : n ≡ t = omega (arith, ge, lt) in
    subst (λ u. is_above s r u ≡ false) z (last (is_above s r n) none))
    (cases_lt t n)
  where
    last : (b : Bool) → above_of s r n + (if b then 1 else 0) ≡ 0 → b ≡ false
    last false e = refl
    last true e = absurd (omega (arith, e))

-- Use: no slot asked for more than its processors.
pub none_above : (seen : Seen) → AreOfRun seen.state.plan seen.state.now seen.rows seen.denials →
    above_of seen.state.plan (run_of seen.state.plan seen.state.now) seen.state.now ≡ 0 →
    misses_of seen.state.plan (run_of seen.state.plan seen.state.now) ≡ []
none_above seen are none =
    let s = seen.state.plan in
    let n = seen.state.now in
    let r = run_of s n in
    let run : IsRun s n r = run_is_computed s n are.scenario in
    no_window_is_missed s n r are.scenario run
    (λ t lt. ltb-false (room_in s r t) (load_in s r t) (above_each s r n t (omega (arith, lt, run.slots)) none))

-- Use: the verdict `Fits`.
pub fits_settled : (g : Grounds) → verdict_of g ≡ Fits → g.above ≡ 0
fits_settled g fits = by (is_clean g) (is_settled g) refl fits where
  by : (a b : Bool) → is_settled g ≡ b → (if a then (if b then Fits else FitsSoFar) else DoesNotFit) ≡ Fits → g.above ≡ 0
  by true true settled e = eqb-true g.above 0 (and_parts (g.above == 0) (g.unreached == 0) settled).0
  by true false settled e = cc
  by false b settled e = cc
