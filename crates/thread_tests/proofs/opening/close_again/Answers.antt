use Rattle.std.proofs.Common.{sym, subst}
use Rattle.pf_board.specs.Passes.{AreOf}
use Rattle.thread_tests.proofs.opening.close_again.Goals as goal

pub close-requires-in-Err : goal.close-requires-in-Err
close-requires-in-Err g c = subst (λ l. AreOf g.N.Naming.board.id l) (sym c.in-Err.ensures.refused.1) c.requires
