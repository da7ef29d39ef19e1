use Rattle.std.proofs.Common.{sym, ap, ◌∙◌, arith}
use Rattle.pf_board.proofs.Hands.{reports, lists}
use Rattle.pf_board.proofs.board.Board.report.Goals as goal

pub split_seat-seat-requires : goal.split_seat-seat-requires
split_seat-seat-requires g c =
    let b = c.self.inside.table.shared in
    let s = c.keeper.inside.seat in
    (ap (λ p. p.board) c.keeper.view_is ∙ (c.requires.0 ∙ sym (ap (λ x. x.id) c.self.view_is)), omega arith, reports g.I.Issues.legal g.I.Issues.quanta g.I.Issues.steps b.key s.id s.me.0)

pub join_seat-requires : goal.join_seat-requires
join_seat-requires g c =
    let b = c.self.inside.table.shared in
    let s = c.pass.inside.seat in
    let e = c.split_seat-seat.ensures in
    let t = c.split_seat-seat.result in
    let id = sym (ap (λ x. x.id) c.self.view_is) in
    (ap (λ p. p.board) c.pass.view_is ∙ (c.requires.1 ∙ id), e.3 ∙ (ap (λ p. p.board) c.keeper.view_is ∙ (c.requires.0 ∙ id)), ap (λ m. m.1) e.4, omega arith, lists g.I.Issues.legal g.I.Issues.quanta g.I.Issues.steps b.key s.id s.me.0 t.id t.me.0 (ap (λ m. m.0.named) e.4) (ap (λ m. m.0.taken) e.4) (ap (λ m. m.0.guests) e.4))
