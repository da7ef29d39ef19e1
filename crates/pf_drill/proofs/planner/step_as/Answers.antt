use Rattle.std.proofs.Common.{ap}
use Rattle.pf_share.specs.Entered.{found_empty}
use Rattle.pf_drill.proofs.Entered.{goes_on}
use Rattle.pf_drill.proofs.planner.step_as.Goals as goal

pub returns-in-Ok : goal.returns-in-Ok
returns-in-Ok g c =
    goes_on g.N.Naming.board.terms _ _ (found_empty g.N.Naming.board.processors c.loop.planner) _ c.in-Ok.done
    (ap (found_empty g.N.Naming.board.processors) c.loop.invariant) c.in-Ok.ensures.entered
