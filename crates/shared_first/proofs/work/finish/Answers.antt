use Rattle.std.proofs.Common.{List, length, ap, sym, ◌∙◌}
use Rattle.pf_scenario.specs.System.{System}
use Rattle.pf_desk.specs.declared.entry.Entry.{Entry}
use Rattle.pf_board.specs.Passes.{Passing, all_taken}
use Rattle.shared_first.proofs.Passes.{are_handed_out, five_took}
use Rattle.shared_first.proofs.work.finish.Goals as goal

pub returns-clause-handed_out : goal.returns-clause-handed_out
returns-clause-handed_out g c =
    let left = c.args.left in
    let items = c.in-Ok.ensures.items in
    let first = left.first.1.items in
    let second = left.second.1.items in
    let planned = c.requires.planned in
    let dispatched = c.requires.dispatched in
    are_handed_out g.N.Naming.board c.in-Ok.passes.items c.in-Ok-close.closed first second c.in-Ok-close.ensures.closed
    (ap (λ (l : List (Passing Entry System)). length l) items ∙ sym c.requires.five)
    (ap (λ (l : List (Passing Entry System)). all_taken l) items
    ∙ five_took g.N.Naming.board.id first second left.first.0 left.second.0 left.planners.0 left.planners.1 left.followed.pass dispatched.0 dispatched.1 planned.0 planned.1 c.requires.followed.0)
