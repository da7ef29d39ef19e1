use Rattle.std.specs.Prelude.{◌≡◌}
use Rattle.thread_tests.proofs.race.dispatch.Given as goal

abbrev pub invariant-loop : goal.invariant-loop
invariant-loop l = record { board : l.pass.board ≡ l.fn.board.id }
