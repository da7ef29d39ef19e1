use Rattle.std.specs.Prelude.{[]}
use Rattle.shared_first.specs.Handed.{Took}
use Rattle.shared_first.proofs.planner.insert.Given as goal

abbrev pub invariant-loop-task : goal.invariant-loop-task
invariant-loop-task g l = Took g.N.Naming.board.id [] l.pass
