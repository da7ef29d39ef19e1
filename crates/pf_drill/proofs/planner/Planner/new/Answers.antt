use Rattle.std.proofs.Common.{refl}
use Rattle.pf_drill.proofs.Planned.{begun}
use Rattle.pf_drill.proofs.planner.Planner.new.Goals as goal

pub returns : goal.returns
returns g c =
    let e = begun g.N.Naming.board.id g.N.Naming.board.terms _ c.args.pass.me c.requires refl c.new.ensures.items in
    record { step = e.0; given = e.1 }
