use Rattle.std.proofs.Common.{sym, ap, ◌∙◌, arith}
use Rattle.pf_board.proofs.Turns.{turns_off}
use Rattle.pf_board.proofs.board.Board.turn.Goals as goal

pub split_seat-seat-requires : goal.split_seat-seat-requires
split_seat-seat-requires g c =
    let b = c.self.inside.table.shared in
    let s = c.keeper.inside.seat in
    (ap (λ p. p.board) c.keeper.view_is ∙ (c.requires.board ∙ sym (ap (λ x. x.id) c.self.view_is)), omega arith, turns_off g.I.Issues.legal g.I.Issues.quanta g.I.Issues.steps b.key s.id s.me.0 (ap (λ p. p.has_turn) c.keeper.view_is ∙ c.requires.here))
