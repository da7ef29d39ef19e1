use Rattle.std.proofs.Common.{◌≡◌, ◌<◌, ◌+◌, length, get_or, [], sym, ap, ◌∙◌, arith, refl}
use Rattle.std.proofs.lemmas.List.{length-replicate}
use Rattle.pf_timeline.proofs.Grown.{row_each}
use Rattle.pf_desk.proofs.Pasts.{places_taken}
use Rattle.pf_desk.proofs.Applying.{Steps, horizon_applied, stepped_applied}
use Rattle.pf_desk.proofs.Uncounted.{at_most_more, counts_none}
use Rattle.pf_desk.proofs.scenario_run.ScenarioRun.step.Goals as goal
use Rattle.pf_desk.proofs.scenario_run.ScenarioRun.step.Goals.{After-fill}

pub returns-then-slot-horizon-clause-ok : goal.returns-then-slot-horizon-clause-ok
returns-then-slot-horizon-clause-ok c =
    horizon_applied c.args.self.now c.requires
    (sym c.now-slot.ensures ∙ c.if-slot-horizon.true ∙ c.horizon.ensures.value ∙ ap (λ s. s.horizon) c.settings-settings.ensures.value)

pub returns-then-slot-horizon-clause-at_most : goal.returns-then-slot-horizon-clause-at_most
returns-then-slot-horizon-clause-at_most c = counts_none _ _

pub returns-then-slot-horizon-clause-comparisons : goal.returns-then-slot-horizon-clause-comparisons
returns-then-slot-horizon-clause-comparisons c = at_most_more _ _

pub returns-in_err-row-clause-at_most : goal.returns-in_err-row-clause-at_most
returns-in_err-row-clause-at_most c = counts_none _ _

pub returns-in_err-row-clause-comparisons : goal.returns-in_err-row-clause-comparisons
returns-in_err-row-clause-comparisons c = at_most_more _ _

pub fill-requires-clause-within : goal.fill-requires-clause-within
fill-requires-clause-within c = omega (arith, row_each _ _ _ _ c.in_ok-advance.ensures.ok.of_run, ap length c.rows.ensures)

pub fill-requires-clause-places : goal.fill-requires-clause-places
fill-requires-clause-places c =
    let m : c.processors.result ≡ c.args.self.now.scenario.settings.processors =
    c.processors.ensures.value ∙ ap (λ s. s.processors) c.settings-settings.ensures.value in
    let slot : c.now-slot.result < c.args.self.now.timeline.now + 1 = omega arith in
    let long = places_taken _ _ c.advance.new.self c.now-slot.result [] c.in_ok-advance.ensures.ok slot in
    rw (c.in_ok-row.ensures.row, length-replicate, c.rows.ensures) (m ∙ sym long)

steps : (c : After-fill) →
    Steps c.args.self.now (record { scenario = c.args.self.now.scenario; timeline = c.advance.new.self }) c.now-slot.result c.fill.new.row
steps c = record {
  below = λ at. c.if-slot-horizon.false (c.now-slot.ensures ∙ at ∙ sym (c.horizon.ensures.value ∙ ap (λ s. s.horizon) c.settings-settings.ensures.value));
  scenario = refl;
  stands = c.in_ok-advance.ensures.ok;
  slot_is = c.now-slot.ensures;
  row_is = c.fill.ensures ∙ ap (λ rows. get_or rows c.now-slot.result []) c.rows.ensures;
  near = c.in_ok-advance.ensures.near;
  every = c.advance.ensures.every;
}

pub returns-clause-ok : goal.returns-clause-ok
returns-clause-ok c = stepped_applied _ _ _ _ c.requires.near (steps ((goal.at.returns-clause-ok c).After-fill))

pub returns-clause-uncounted : goal.returns-clause-uncounted
returns-clause-uncounted c = λ at. absurd ((steps ((goal.at.returns-clause-uncounted c).After-fill)).below at)
