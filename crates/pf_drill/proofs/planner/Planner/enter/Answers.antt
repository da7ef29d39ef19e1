use Rattle.std.proofs.Common.{refl}
use Rattle.pf_drill.proofs.Entered.{entered}
use Rattle.pf_drill.proofs.planner.Planner.enter.Goals as goal

pub returns : goal.returns
returns g c =
    let e = entered g.N.Naming.board.id g.N.Naming.board.terms c.args.command c.args.self.now _ c.in-Ok.done c.requires c.in-Ok.ensures c.if-done-self.false refl c.in-Ok-note_issued.ensures in
    record { step = e.0; commands = e.1; halt = tt }
