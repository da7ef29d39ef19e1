use Rattle.std.proofs.Common.{◌∙◌, ap, ap₂, sym, length, arith, subst}
use Rattle.std.proofs.lemmas.Result.{IfOk-weaker}
use Rattle.pf_run.specs.Computed.{run_of}
use Rattle.pf_tally.specs.Levels.{levels_of}
use Rattle.pf_verdict.specs.Stretches.{AreStretches, stretches_of}
use Rattle.pf_verdict.proofs.Shown.{length-rows, of_run}
use Rattle.pf_verdict.proofs.Stretched.{stretched}
use Rattle.pf_verdict.proofs.stretches.stretches.Goals as goal

pub levels-requires-clause-of_run : goal.levels-requires-clause-of_run
levels-requires-clause-of_run c =
    of_run c.args.snapshot.now c.scenario.result.now c.rows.result.now c.denials.result.now c.now-now.ensures.of_run c.scenario.ensures c.rows.ensures c.denials.ensures

pub levels-requires-clause-within : goal.levels-requires-clause-within
levels-requires-clause-within c =
    omega (arith, c.now-now.ensures.value, length-rows c.args.snapshot.now c.now-now.ensures.of_run, ap length c.rows.ensures)

pub returns : goal.returns
returns c =
    let seen = c.args.snapshot.now in
    let s = seen.state.plan in
    let n = seen.state.now in
    IfOk-weaker c.stretches_of.result _ _
    (λ v h.
    subst (AreStretches s (run_of s n) n)
    (sym (h ∙ ap₂ stretches_of
    (c.deref.ensures.value ∙ c.in_ok-levels.ensures
    ∙ ap₂ (λ p rows. levels_of p (run_of p (length rows)) 0 c.now-now.result) c.scenario.ensures c.rows.ensures
    ∙ ap₂ (λ m k. levels_of s (run_of s m) 0 k) (length-rows seen c.now-now.ensures.of_run) c.now-now.ensures.value)
    c.now-now.ensures.value))
    (stretched s (run_of s n) n))
    c.stretches_of.ensures
