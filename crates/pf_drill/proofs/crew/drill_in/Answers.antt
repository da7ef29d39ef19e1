use Rattle.std.proofs.Common.{◌≡◌, ◌∙◌, ◌<◌, ℕ, true, ap, sym, subst, arith, List, length}
use Rattle.std.specs.Prelude.{slice_index_or}
use Rattle.std.specs.List.{list_any}
use Rattle.pf_drill.specs.declared.shift.Shift.{Shift}
use Rattle.pf_drill.specs.Gates.{IsToldOf}
use Rattle.pf_drill.proofs.Gated.{one_shut}
use Rattle.pf_drill.proofs.crew.drill_in.Goals as goal

pub returns-then-is_any_shut-clause-stopped : goal.returns-then-is_any_shut-clause-stopped
returns-then-is_any_shut-clause-stopped g c =
    let ss = c.in-Ok-join_promised.shifts.items in
    let told : (k : ℕ) (d : Shift) → k < length ss → IsToldOf (g.G.Gate.lets_in c.args.gate.now) (g.G.Gate.shuts_out c.args.gate.now) (slice_index_or ss k d) =
    λ k d lt.
    let at = (c.in-Ok-join_promised.ensures.each k d (omega (arith, lt, c.in-Ok-join_promised.shifts.ok.0, c.in-Ok-join_promised.ensures.len))).1 in
    let gate = ap (λ h. h.promise.gate.now) at.handle_is ∙ c.in-Ok.ensures k at.handle (omega (arith, lt, c.in-Ok-join_promised.shifts.ok.0, c.in-Ok-join_promised.ensures.len)) in
    subst (λ x. IsToldOf (g.G.Gate.lets_in x) (g.G.Gate.shuts_out x) (slice_index_or ss k d)) gate at.kept in
    one_shut (g.G.Gate.lets_in c.args.gate.now) (g.G.Gate.shuts_out c.args.gate.now) ss told
    (ap (list_any (λ (s : Shift). s.is_shut)) (sym c.deref.ensures.value) ∙ sym c.is_any_shut.ensures ∙ c.if-is_any_shut.true)
