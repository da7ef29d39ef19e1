use Rattle.std.proofs.lemmas.Result.{IfOk-weaker}
use Rattle.pf_board.specs.Passes.{AreOf}
use Rattle.thread_tests.proofs.Boarded.{boarded}
use Rattle.thread_tests.proofs.opening.open_desk.Goals as goal

pub returns-clause-passes : goal.returns-clause-passes
returns-clause-passes g c =
    IfOk-weaker c.open.result _ (λ b. AreOf b.board.id b.passes)
    (λ b is. boarded b.board.id c.args.settings c.args.passes b.passes is)
    c.open.ensures.passes
