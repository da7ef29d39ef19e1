use Rattle.std.specs.Prelude.{◌≡◌}
use Rattle.thread_tests.proofs.again.plan.Given as goal

abbrev pub invariant-loop-task : goal.invariant-loop-task
invariant-loop-task g l = l.pass.board ≡ g.N.Naming.board.id
