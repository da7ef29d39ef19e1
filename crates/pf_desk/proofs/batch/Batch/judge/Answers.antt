use Rattle.std.proofs.Common.{refl, sym, ap, ◌∙◌, ◌≤◌, ℕ, min, arith}
use Rattle.std.proofs.lemmas.Result.{IfOk-from_err}
use Rattle.pf_scenario.specs.Scenario.{plan_after, number_of_change, slot_touched}
use Rattle.pf_desk.proofs.Gathering.{batch_judged, judges_refused, judges_edited}
use Rattle.pf_desk.proofs.batch.Batch.judge.Goals as goal

pub returns-in_err-push-in-Err-clause-batch : goal.returns-in_err-push-in-Err-clause-batch
returns-in_err-push-in-Err-clause-batch c = λ _ _. IfOk-from_err _ _ c.from_residual.ensures.0

pub returns-in_err-push-in-Err-clause-caller : goal.returns-in_err-push-in-Err-clause-caller
returns-in_err-push-in-Err-clause-caller c = IfOk-from_err _ _ c.from_residual.ensures.0

pub returns-in_err-push-in-Err-clause-commands : goal.returns-in_err-push-in-Err-clause-commands
returns-in_err-push-in-Err-clause-commands c = IfOk-from_err _ _ c.from_residual.ensures.0

pub returns-in_err-push-in-Err-clause-from : goal.returns-in_err-push-in-Err-clause-from
returns-in_err-push-in-Err-clause-from c = λ _ _. IfOk-from_err _ _ c.from_residual.ensures.0

pub returns-in-Err-clause-batch : goal.returns-in-Err-clause-batch
returns-in-Err-clause-batch c = λ d is.
    batch_judged d _ _ c.args.change _ is
    (judges_refused _ _ c.args.change c.in-Err.fault refl refl refl c.in_ok-push-in-Err.ensures.items (sym c.in-Err.ensures.value) c.in-Err.ensures.scenario)

pub returns-in-Err-clause-caller : goal.returns-in-Err-clause-caller
returns-in-Err-clause-caller c = refl

least_within : (s n : ℕ) → min s n ≤ n
least_within s n = omega arith

pub returns-in-Err-clause-from : goal.returns-in-Err-clause-from
returns-in-Err-clause-from c = λ s _. least_within s _

pub returns-in_err-id-clause-batch : goal.returns-in_err-id-clause-batch
returns-in_err-id-clause-batch c = λ _ _. IfOk-from_err _ _ c.from_residual-in_err-id.ensures.0

pub returns-in_err-id-clause-caller : goal.returns-in_err-id-clause-caller
returns-in_err-id-clause-caller c = IfOk-from_err _ _ c.from_residual-in_err-id.ensures.0

pub returns-in_err-id-clause-commands : goal.returns-in_err-id-clause-commands
returns-in_err-id-clause-commands c = IfOk-from_err _ _ c.from_residual-in_err-id.ensures.0

pub returns-in_err-id-clause-from : goal.returns-in_err-id-clause-from
returns-in_err-id-clause-from c = λ _ _. IfOk-from_err _ _ c.from_residual-in_err-id.ensures.0

pub returns-in_err-push-clause-batch : goal.returns-in_err-push-clause-batch
returns-in_err-push-clause-batch c = λ _ _. IfOk-from_err _ _ c.from_residual-in_err-push.ensures.0

pub returns-in_err-push-clause-caller : goal.returns-in_err-push-clause-caller
returns-in_err-push-clause-caller c = IfOk-from_err _ _ c.from_residual-in_err-push.ensures.0

pub returns-in_err-push-clause-commands : goal.returns-in_err-push-clause-commands
returns-in_err-push-clause-commands c = IfOk-from_err _ _ c.from_residual-in_err-push.ensures.0

pub returns-in_err-push-clause-from : goal.returns-in_err-push-clause-from
returns-in_err-push-clause-from c = λ _ _. IfOk-from_err _ _ c.from_residual-in_err-push.ensures.0

pub returns-clause-batch : goal.returns-clause-batch
returns-clause-batch c = λ d is.
    batch_judged d _ _ c.args.change _ is
    (judges_edited _ _ c.args.change c.in_ok-id.id c.in-Ok.checked.first_slot refl (c.in_ok-id.ensures.ok.1 ∙ ap (plan_after c.args.self.now.scenario) c.in-Ok.ensures.ok.0)
    (c.in_ok-id.ensures.ok.0 ∙ ap (number_of_change c.args.self.now.scenario) c.in-Ok.ensures.ok.0)
    (ap (slot_touched c.args.self.now.scenario) (sym c.in-Ok.ensures.ok.0) ∙ c.in-Ok.ensures.ok.1.touched) (c.min-from.ensures ∙ ap (λ t. min c.args.self.now.from t) c.first_slot.ensures)
    c.in_ok-push.ensures.items (sym c.in-Ok.ensures.value) c.in-Ok.ensures.scenario)

pub returns-clause-caller : goal.returns-clause-caller
returns-clause-caller c = refl
