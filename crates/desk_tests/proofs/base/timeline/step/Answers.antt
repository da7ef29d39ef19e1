use Rattle.std.proofs.Common.{◌+◌}
use Rattle.std.proofs.lemmas.Result.{IfOk-weaker}
use Rattle.pf_timeline.specs.Timeline.{StandsFor}
use Rattle.pf_timeline.proofs.Past.{stands_now}
use Rattle.desk_tests.proofs.base.timeline.step.Goals as goal

pub returns-clause-ok : goal.returns-clause-ok
returns-clause-ok c =
    let s = c.args.scenario.now in
    let t = c.step.new.self in
    IfOk-weaker c.step.result _ (λ _. StandsFor s t.now t)
    (λ _ stands. stands_now s (c.args.timeline.now.now + 1) t stands)
    c.step.ensures.ok
