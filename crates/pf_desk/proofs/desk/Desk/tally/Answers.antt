use Rattle.std.proofs.Common.{length, ap, ◌∙◌}
use Rattle.std.proofs.lemmas.Result.{IfOk-weaker}
use Rattle.pf_run.specs.Computed.{run_of}
use Rattle.pf_tally.specs.Lags.{lags_of}
use Rattle.pf_tally.specs.Misses.{misses_of}
use Rattle.pf_timeline.proofs.Grown.{row_each}
use Rattle.pf_desk.proofs.Pasts.{stood_of_run}
use Rattle.pf_desk.proofs.desk.Desk.tally.Goals as goal

pub make_tally-requires : goal.make_tally-requires
make_tally-requires c = rw (c.rows.ensures, c.denials.ensures) (stood_of_run _ _ c.self.invariant.keeps.stands)

pub returns-clause-lags : goal.returns-clause-lags
returns-clause-lags c =
    let long = ap length c.rows.ensures ∙ row_each _ _ _ _ c.self.invariant.keeps.stands.of_run in
    IfOk-weaker c.make_tally.result _ _
    (λ v is. is ∙ ap (λ n. lags_of c.self.inside.run.scenario (run_of c.self.inside.run.scenario n)) long
    ∙ ap (λ d. lags_of d.state.plan (run_of d.state.plan d.state.now)) c.self.view_is)
    c.make_tally.ensures.lags

pub returns-clause-misses : goal.returns-clause-misses
returns-clause-misses c =
    let long = ap length c.rows.ensures ∙ row_each _ _ _ _ c.self.invariant.keeps.stands.of_run in
    IfOk-weaker c.make_tally.result _ _
    (λ v is. is ∙ ap (λ n. misses_of c.self.inside.run.scenario (run_of c.self.inside.run.scenario n)) long
    ∙ ap (λ d. misses_of d.state.plan (run_of d.state.plan d.state.now)) c.self.view_is)
    c.make_tally.ensures.misses
