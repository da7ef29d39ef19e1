use Rattle.std.proofs.Common.{◌∙◌, ap, ap₂, length, arith}
use Rattle.std.proofs.lemmas.Result.{IfOk-weaker}
use Rattle.pf_run.specs.Computed.{run_of}
use Rattle.pf_tally.specs.Levels.{levels_of}
use Rattle.pf_courses.proofs.OfRun.{length-rows, of_run}
use Rattle.pf_trace.proofs.trace.levels_of.Goals as goal

pub levels-requires-clause-of_run : goal.levels-requires-clause-of_run
levels-requires-clause-of_run c =
    of_run c.now.ensures.of_run c.scenario.ensures c.rows.ensures c.denials.ensures

pub levels-requires-clause-within : goal.levels-requires-clause-within
levels-requires-clause-within c =
    omega (arith, c.now.ensures.value, length-rows c.now.ensures.of_run, ap length c.rows.ensures)

pub returns : goal.returns
returns c =
    let seen = c.args.snapshot.now in
    IfOk-weaker c.levels.result _ _
    (λ v h. h ∙ ap₂ (λ s rows. levels_of s (run_of s (length rows)) 0 c.now.result) c.scenario.ensures c.rows.ensures
    ∙ ap₂ (λ n to. levels_of seen.state.plan (run_of seen.state.plan n) 0 to) (length-rows c.now.ensures.of_run) c.now.ensures.value)
    c.levels.ensures
