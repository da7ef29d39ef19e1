use Rattle.pf_drill.proofs.Entered.{goes_on_if}
use Rattle.pf_drill.proofs.planner.enter_as.Goals as goal

pub returns-in-Edit : goal.returns-in-Edit
returns-in-Edit g c = rw c.in-Edit.is (goes_on_if g.N.Naming.board.terms _ _ _ c.edit.result c.edit.ensures.entered)
