use Rattle.std.specs.Prelude.{[]}
use Rattle.shared_first.specs.Handed.{Took}
use Rattle.shared_first.proofs.planner.step.Given as goal

abbrev pub invariant-loop : goal.invariant-loop
invariant-loop g l = Took g.N.Naming.board.id [] l.pass
