use Rattle.std.proofs.Common.{◌≡◌, ◌+◌, [], None, length, get_or, refl, sym, ap, ◌∙◌, subst, arith}
use Rattle.std.specs.List.{slice_get}
use Rattle.std.proofs.lemmas.Option.{slice_get_past, slice_get-get_or}
use Rattle.pf_timeline.proofs.Grown.{row_each}
use Rattle.pf_desk.specs.declared.command.Command.TheVariants.{Step}
use Rattle.pf_desk.specs.declared.scenario_run.ScenarioRun.{ScenarioRun}
use Rattle.pf_desk.specs.Applied.{Stands, IsApplied}
use Rattle.pf_desk.specs.Machine.{reply_by_row, IsStepped}
use Rattle.pf_desk.proofs.Applying.{horizon_applied, stepped_applied}
use Rattle.pf_desk.proofs.scenario_run.ScenarioRun.take_slot.Goals as goal

-- the slot after those that were taken has no row
none_yet : (r : ScenarioRun) → Stands r → slice_get r.timeline.rows r.timeline.now ≡ None
none_yet r stands = slice_get_past r.timeline.rows r.timeline.now (omega (arith, row_each _ _ _ _ stands.run.of_run))

pub returns-then-now-horizon-clause-ok : goal.returns-then-now-horizon-clause-ok
returns-then-now-horizon-clause-ok c =
    let r = c.args.self.now in
    subst (λ row. IsApplied Step r (reply_by_row r.timeline.now row) r) (sym (none_yet r c.requires))
    (horizon_applied r c.requires
    (sym c.now.ensures ∙ c.if-now-horizon.true ∙ c.horizon.ensures.value ∙ ap (λ s. s.horizon) c.settings.ensures.value))

pub returns-then-now-horizon-clause-counted : goal.returns-then-now-horizon-clause-counted
returns-then-now-horizon-clause-counted c =
    let r = c.args.self.now in
    λ stepped. absurd (subst (λ row. IsStepped (reply_by_row r.timeline.now row)) (none_yet r c.requires) stepped)

pub returns-clause-ok : goal.returns-clause-ok
returns-clause-ok c =
    let r = c.args.self.now in
    let r' : ScenarioRun = record { scenario = r.scenario; timeline = c.advance.new.self } in
    let rows = c.advance.new.self.rows in
    let long : length rows ≡ r.timeline.now + 1 = row_each _ _ _ _ c.in_ok-advance.ensures.ok.of_run in
    subst (λ row. IsApplied Step r (reply_by_row r.timeline.now row) r') (sym (slice_get-get_or rows r.timeline.now [] (omega (arith, long))))
    (stepped_applied r r' r.timeline.now (get_or rows r.timeline.now []) c.requires.near (record {
      below = λ at. c.if-now-horizon.false (c.now.ensures ∙ at ∙ sym (c.horizon.ensures.value ∙ ap (λ s. s.horizon) c.settings.ensures.value));
      scenario = refl;
      stands = c.in_ok-advance.ensures.ok;
      slot_is = refl;
      row_is = refl;
      near = c.in_ok-advance.ensures.near;
      every = c.advance.ensures.every;
    }))
