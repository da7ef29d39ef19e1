use Rattle.std.proofs.Common.{sym, ap, ◌∙◌}
use Rattle.pf_board.proofs.Fronts.{pass_met}
use Rattle.pf_board.proofs.board.Board.meet.Goals as goal

pub invariant_of-into : goal.invariant_of-into
invariant_of-into g c =
    let v = c.into.inside.seat.me.0 in
    let w = c.visit.new.host.me.0 in
    let m = c.visit.ensures.met in
    (pass_met g.I.Issues.legal c.from.inside.seat.me.0 v w c.into.invariant.0 m, c.visit.ensures.host.1 ∙ c.into.invariant.1, c.into.invariant.2 ∙ sym (ap (λ u. u.me) m.same))
