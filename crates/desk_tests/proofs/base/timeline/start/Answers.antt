use Rattle.std.proofs.Common.{sym}
use Rattle.std.proofs.lemmas.Result.{IfOk-weaker}
use Rattle.pf_timeline.specs.Timeline.{StandsFor}
use Rattle.pf_timeline.proofs.Past.{stands_now}
use Rattle.desk_tests.proofs.base.timeline.start.Goals as goal

pub returns : goal.returns
returns c =
    let s = c.args.scenario.now in
    IfOk-weaker c.new.result _ (λ t. StandsFor s t.now t)
    (λ t stands. stands_now s 0 t (stands s (sym c.settings.ensures.value) c.settings.ensures.scenario))
    c.new.ensures.stands
