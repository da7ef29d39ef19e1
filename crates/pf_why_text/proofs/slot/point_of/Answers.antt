use Rattle.std.proofs.Common.{◌∙◌, ap, ap₂, length, arith}
use Rattle.std.proofs.lemmas.Result.{IfOk-weaker}
use Rattle.pf_why.specs.Point.{point_of}
use Rattle.pf_why_text.proofs.Shown.{length-rows, of_run}
use Rattle.pf_why_text.proofs.slot.point_of.Goals as goal

pub point_at-requires-clause-of_run : goal.point_at-requires-clause-of_run
point_at-requires-clause-of_run c =
    of_run c.args.snapshot.now c.scenario.result.now c.rows.result.now c.denials.result.now c.now.ensures.of_run c.scenario.ensures c.rows.ensures c.denials.ensures

pub point_at-requires-clause-within : goal.point_at-requires-clause-within
point_at-requires-clause-within c =
    omega (arith, c.requires, length-rows c.args.snapshot.now c.now.ensures.of_run, ap length c.rows.ensures)

pub returns : goal.returns
returns c =
    let seen = c.args.snapshot.now in
    let t = c.args.t in
    IfOk-weaker c.point_at.result _ _
    (λ v h. h ∙ ap₂ (λ s rows. point_of s (length rows) t) c.scenario.ensures c.rows.ensures
    ∙ ap (λ n. point_of seen.state.plan n t) (length-rows seen c.now.ensures.of_run))
    c.point_at.ensures
