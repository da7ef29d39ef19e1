use Rattle.std.proofs.Common.{◌∙◌, ap, ap₂, length, arith}
use Rattle.std.proofs.lemmas.Result.{IfOk-weaker}
use Rattle.pf_run.specs.Computed.{run_of}
use Rattle.pf_why.specs.Ranking.{ranking_in}
use Rattle.pf_why_text.proofs.Shown.{length-rows, of_run}
use Rattle.pf_why_text.proofs.slot.ranking_of.Goals as goal

pub ranking-requires-clause-of_run : goal.ranking-requires-clause-of_run
ranking-requires-clause-of_run c =
    of_run c.args.snapshot.now c.scenario.result.now c.rows.result.now c.denials.result.now c.now.ensures.of_run c.scenario.ensures c.rows.ensures c.denials.ensures

pub ranking-requires-clause-within : goal.ranking-requires-clause-within
ranking-requires-clause-within c =
    omega (arith, c.requires, length-rows c.args.snapshot.now c.now.ensures.of_run, ap length c.rows.ensures)

pub returns : goal.returns
returns c =
    let seen = c.args.snapshot.now in
    let t = c.args.t in
    IfOk-weaker c.ranking.result _ _
    (λ v h. h ∙ ap₂ (λ s rows. ranking_in s (run_of s (length rows)) t) c.scenario.ensures c.rows.ensures
    ∙ ap (λ n. ranking_in seen.state.plan (run_of seen.state.plan n) t) (length-rows seen c.now.ensures.of_run))
    c.ranking.ensures
