use Rattle.std.proofs.lemmas.Result.{IfOk-weaker}
use Rattle.shared_load.proofs.Opened.{boarded}
use Rattle.shared_load.proofs.desk.open_desk.Goals as goal

pub returns-clause-passes : goal.returns-clause-passes
returns-clause-passes g c =
    IfOk-weaker c.open.result _ _ (λ b same. boarded b.board.id c.args.settings c.args.callers b.passes same) c.open.ensures.passes
