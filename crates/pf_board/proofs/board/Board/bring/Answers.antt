use Rattle.std.proofs.Common.{sym, ap, ◌∙◌, arith}
use Rattle.pf_board.proofs.Looks.{settles}
use Rattle.pf_board.proofs.Turns.{turns_on}
use Rattle.pf_board.proofs.board.Board.bring.Goals as goal

pub join_seat-requires : goal.join_seat-requires
join_seat-requires g c =
    let b = c.self.inside.table.shared in
    let s = c.keeper.inside.seat in
    let t = c.requires.turn.0 in
    let id = sym (ap (λ x. x.id) c.self.view_is) in
    (ap (λ p. p.board) c.keeper.view_is ∙ (c.requires.board.0 ∙ id), c.requires.board.1 ∙ id, c.requires.turn.1, omega arith, turns_on g.I.Issues.legal g.I.Issues.quanta g.I.Issues.steps b.key s.id s.me.0 c.args.seat.id c.args.seat.me.0 t.on t.unnamed t.alone t.none)

pub load-requires : goal.load-requires
load-requires g c =
    let b = c.self.inside.table.shared in
    let s = c.join_seat.new.seat in
    (c.join_seat.ensures.0 ∙ (ap (λ p. p.board) c.keeper.view_is ∙ (c.requires.board.0 ∙ sym (ap (λ x. x.id) c.self.view_is))), omega arith, settles g.I.Issues.legal g.I.Issues.quanta g.I.Issues.steps b.key b.table_id.slots s.id s.me)
