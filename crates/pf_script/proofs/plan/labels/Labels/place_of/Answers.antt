use Rattle.std.proofs.Common.{◌≡◌, ◌∙◌, Bool, true, false, List, ℕ, None, Some, sym, subst, refl}
use Rattle.std.specs.Prelude.{All, if◌then◌else◌}
use Rattle.pf_vocabulary.specs.Names.Text.{is_text}
use Rattle.pf_script.proofs.PlanLemmas.LabelPlaces.{no_text_nowhere}
use Rattle.pf_script.proofs.plan.labels.Labels.place_of.Goals as goal

pub returns-in_err-label : goal.returns-in_err-label
returns-in_err-label c =
    c.from_residual.ensures
    ∙ sym (no_text_nowhere c.args.self.now c.args.label.now (subst (All (λ l. is_text l.name ≡ true)) c.self.view_is c.self.invariant.1)
    (by (is_text c.args.label.now) c.args.label.now (sym c.new.ensures ∙ c.in_err-label.was)))
  where
    by : (b : Bool) (label : List ℕ) → (if b then Some label else None) ≡ None → b ≡ false
    by true label h = absurd (cc)
    by false label h = refl
