use Rattle.std.proofs.Common.{◌∙◌, ap, ap₂, length, arith}
use Rattle.std.proofs.lemmas.Result.{IfOk-weaker}
use Rattle.pf_run.specs.Computed.{run_of}
use Rattle.pf_why.specs.Upcoming.{upcoming_in}
use Rattle.pf_why_text.proofs.Shown.{length-rows, of_run}
use Rattle.pf_why_text.proofs.whereabouts.upcoming_of.Goals as goal

pub upcoming_at-requires-clause-of_run : goal.upcoming_at-requires-clause-of_run
upcoming_at-requires-clause-of_run c =
    of_run c.args.snapshot.now c.scenario.result.now c.rows.result.now c.denials.result.now c.now.ensures.of_run c.scenario.ensures c.rows.ensures c.denials.ensures

pub upcoming_at-requires-clause-within : goal.upcoming_at-requires-clause-within
upcoming_at-requires-clause-within c =
    omega (arith, c.requires, length-rows c.args.snapshot.now c.now.ensures.of_run, ap length c.rows.ensures)

pub returns : goal.returns
returns c =
    let seen = c.args.snapshot.now in
    let t = c.args.t in
    IfOk-weaker c.upcoming_at.result _ _
    (λ v h. h ∙ ap₂ (λ s rows. upcoming_in s (run_of s (length rows)) t c.args.task) c.scenario.ensures c.rows.ensures
    ∙ ap (λ n. upcoming_in seen.state.plan (run_of seen.state.plan n) t c.args.task) (length-rows seen c.now.ensures.of_run))
    c.upcoming_at.ensures
