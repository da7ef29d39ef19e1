use Rattle.std.proofs.Common.{length, ap, ◌∙◌}
use Rattle.std.proofs.lemmas.Result.{IfOk-weaker}
use Rattle.pf_run.specs.Computed.{run_of}
use Rattle.pf_tally.specs.Misses.{misses_of}
use Rattle.pf_timeline.proofs.Grown.{row_each}
use Rattle.pf_desk.proofs.Pasts.{stood_of_run}
use Rattle.pf_desk.proofs.desk.Desk.misses.Goals as goal

pub misses-requires : goal.misses-requires
misses-requires c = rw (c.rows.ensures, c.denials.ensures) (stood_of_run _ _ c.self.invariant.keeps.stands)

pub returns : goal.returns
returns c =
    let long = ap length c.rows.ensures ∙ row_each _ _ _ _ c.self.invariant.keeps.stands.of_run in
    IfOk-weaker c.misses.result _ _
    (λ v is. is ∙ ap (λ n. misses_of c.self.inside.run.scenario (run_of c.self.inside.run.scenario n)) long
    ∙ ap (λ d. misses_of d.state.plan (run_of d.state.plan d.state.now)) c.self.view_is)
    c.misses.ensures
