use Rattle.pf_scenario.proofs.Indexing.{indexed_grown}
use Rattle.pf_scenario.proofs.Moving.{taken_back, indexed_pushed}
use Rattle.pf_scenario.proofs.agenda.Agenda.push.Goals as goal

pub invariant_of-self-in-Err : goal.invariant_of-self-in-Err
invariant_of-self-in-Err c =
    let events = c.self.inside.events in
    let grown = indexed_grown events _ _ _ _ _ c.self.invariant c.grow_for.ensures.joins c.grow_for.ensures.leaves in
    let new = rw (← c.self.view_is) at c.requires.new in
    let back = taken_back events c.args.x c.self.inside.order.keys _ _ c.self.invariant new in
    rw (c.in-Err.ensures.err, c.remove.ensures.keys, c.in_ok-insert.ensures.keys, c.of-place.ensures, back) grown

pub invariant_of-self-in-Ok : goal.invariant_of-self-in-Ok
invariant_of-self-in-Ok c =
    let events = c.self.inside.events in
    let grown = indexed_grown events _ _ _ _ _ c.self.invariant c.grow_for.ensures.joins c.grow_for.ensures.leaves in
    let new = rw (← c.self.view_is) at c.requires.new in
    let last = rw (← c.self.view_is) at c.requires.last in
    let pushed = indexed_pushed events c.args.x c.self.inside.order.keys _ _ _ _ grown new last c.note.ensures.joins c.note.ensures.leaves in
    rw (c.in-Ok.ensures.ok, c.in_ok-insert.ensures.keys, c.of-place.ensures) pushed
