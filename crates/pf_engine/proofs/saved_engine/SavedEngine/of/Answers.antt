use Rattle.std.proofs.Common.{sym, ap, ◌∙◌, subst}
use Rattle.pf_engine.specs.Engines.{IsEngine}
use Rattle.pf_engine.specs.Keeping.{Keeping}
use Rattle.pf_engine.specs.States.{kept_of}
use Rattle.pf_engine.proofs.Saving.{kept_back}
use Rattle.pf_engine.proofs.saved_engine.SavedEngine.of.Goals as goal

pub invariant_of-result : goal.invariant_of-result
invariant_of-result c =
    let engine = c.state.invariant.engine in
    subst IsEngine (sym (kept_back (kept_of c.state.inside) _ engine.weights c.in_ok-save.ensures)) engine

pub returns : goal.returns
returns c =
    kept_back (kept_of c.state.inside) _ c.state.invariant.engine.weights c.in_ok-save.ensures ∙ ap (λ (s : Keeping). s.kept) c.state.view_is
