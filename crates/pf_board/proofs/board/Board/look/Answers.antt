use Rattle.std.proofs.Common.{sym, ap, ◌∙◌, arith}
use Rattle.pf_board.proofs.Looks.{looks}
use Rattle.pf_board.proofs.board.Board.look.Goals as goal

pub load-requires : goal.load-requires
load-requires g c =
    let b = c.self.inside.table.shared in
    let s = c.pass.inside.seat in
    (ap (λ p. p.board) c.pass.view_is ∙ (c.requires ∙ sym (ap (λ x. x.id) c.self.view_is)), omega arith, looks g.I.Issues.legal g.I.Issues.quanta g.I.Issues.steps b.key b.table_id.slots s.id s.me)
