use Rattle.std.specs.Prelude.{◌≡◌}
use Rattle.thread_tests.proofs.planners.insert.Given as goal

abbrev pub invariant-loop-number : goal.invariant-loop-number
invariant-loop-number g l = l.pass.board ≡ g.N.Naming.board.id
