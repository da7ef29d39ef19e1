use Rattle.std.specs.Prelude.{◌≡◌}
use Rattle.pf_board.specs.Passes.{checked}
use Rattle.pf_board.proofs.board.Board.check.Given as goal

abbrev pub invariant-loop-processor : goal.invariant-loop-processor
invariant-loop-processor g l = record { checked : l.keeper ≡ checked l.processor l.fn.keeper }
