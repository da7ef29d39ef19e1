use Rattle.std.proofs.Common.{subst, true}
use Rattle.pf_desk.specs.Recorded.{Recorded, HasNoLessRoom}
use Rattle.pf_desk.specs.Laid.{recorded_by}
use Rattle.pf_desk.proofs.Laying.{laid_with_room, room_made}
use Rattle.pf_desk.proofs.history.History.reserve.Goals as goal

pub invariant_of-self-2 : goal.invariant_of-self-2
invariant_of-self-2 c =
    let inside = c.self.inside in
    rw (c.in_ok-reserve.ensures.items, c.in_ok-reserve-2.ensures.items)
    (laid_with_room inside.processors inside.slots inside.has_room inside.briefs.items inside.settled.items inside.rows _ _ c.self.invariant
    c.lay_row.new.rows _ _ c.in_ok-lay_row.ensures.ok
    c.in_ok-reserve.ensures.ok c.in_ok-reserve-2.ensures.ok)

pub returns-clause-same : goal.returns-clause-same
returns-clause-same c =
    let inside = c.self.inside in
    let made = room_made inside.processors inside.slots inside.has_room inside.briefs.items inside.settled.items inside.rows _ _ c.self.invariant c.lay_row.new.rows c.in_ok-lay_row.ensures.ok in
    rw (c.in_ok-reserve.ensures.items, c.in_ok-reserve-2.ensures.items)
    (subst (λ (h : Recorded). HasNoLessRoom h (recorded_by inside.processors true inside.briefs.items inside.settled.items c.lay_row.new.rows)) c.self.view_is made)
