use Rattle.std.proofs.Common.{◌∙◌, ap, ap₂, length, arith}
use Rattle.std.proofs.lemmas.Result.{IfOk-weaker}
use Rattle.pf_run.specs.Computed.{run_of}
use Rattle.pf_tally.specs.Levels.{levels_of}
use Rattle.pf_courses.proofs.OfRun.{length-rows, of_run}
use Rattle.pf_jobs.proofs.load.levels_of.Goals as goal

pub levels-requires-clause-of_run : goal.levels-requires-clause-of_run
levels-requires-clause-of_run c =
    of_run c.now.ensures.of_run c.scenario.ensures c.rows.ensures c.denials.ensures

pub levels-requires-clause-within : goal.levels-requires-clause-within
levels-requires-clause-within c =
    omega (arith, c.requires.within, length-rows c.now.ensures.of_run, ap length c.rows.ensures)

pub returns : goal.returns
returns c =
    let seen = c.args.snapshot.now in
    let from = c.args.from in
    let to = c.args.to in
    IfOk-weaker c.levels.result _ _
    (λ v h. h ∙ ap₂ (λ s rows. levels_of s (run_of s (length rows)) from to) c.scenario.ensures c.rows.ensures
    ∙ ap (λ n. levels_of seen.state.plan (run_of seen.state.plan n) from to) (length-rows c.now.ensures.of_run))
    c.levels.ensures
