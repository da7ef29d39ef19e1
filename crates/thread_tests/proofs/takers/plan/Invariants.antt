use Rattle.std.specs.Prelude.{◌≡◌}
use Rattle.thread_tests.proofs.takers.plan.Given as goal

abbrev pub invariant-loop : goal.invariant-loop
invariant-loop g l = l.pass.board ≡ g.N.Naming.board.id
