use Rattle.std.proofs.Common.{sym, ap, ◌∙◌, arith}
use Rattle.pf_board.proofs.Turns.{makes_pass}
use Rattle.pf_board.proofs.board.Board.make_pass.Goals as goal

pub split_seat-seat-requires : goal.split_seat-seat-requires
split_seat-seat-requires g c =
    let b = c.self.inside.table.shared in
    let s = c.args.first.now in
    let v = c.requires.first in
    (c.requires.board.0 ∙ sym (ap (λ x. x.id) c.self.view_is), omega arith, makes_pass g.I.Issues.legal g.I.Issues.quanta g.I.Issues.steps b.key s.id s.me.0 (ap (λ m. m.0.turn) v) (ap (λ m. m.0.whole) v) (omega (arith, c.requires.board.2, ap (λ m. m.0.next) v, ap (λ x. x.passes) c.self.view_is)))
