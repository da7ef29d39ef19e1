use Rattle.std.proofs.Common.{sym, ap, ◌∙◌, refl, arith}
use Rattle.pf_board.proofs.Cells.{peeks}
use Rattle.pf_board.proofs.Fronts.{pass_peeked}
use Rattle.pf_board.proofs.board.Board.peek.Goals as goal

pub load-requires : goal.load-requires
load-requires g c =
    let b = c.self.inside.table.shared in
    let s = c.pass.inside.seat in
    (ap (λ p. p.board) c.pass.view_is ∙ (c.requires.board ∙ sym (ap (λ x. x.id) c.self.view_is)), omega (arith, c.requires.inside, c.self.invariant.0, c.self.invariant.1, ap (λ x. x.processors) c.self.view_is), peeks g.I.Issues.legal g.I.Issues.quanta g.I.Issues.steps b.key b.table_id.slots s.id c.args.processor s.me)

pub invariant_of-pass : goal.invariant_of-pass
invariant_of-pass g c =
    let e = c.load.ensures.2 in
    let made = e.0 c.args.processor refl in
    (pass_peeked g.I.Issues.legal c.args.processor c.pass.inside.seat.me.0 c.load.result c.load.new.seat.me.0 c.pass.invariant.0 made, e.1 ∙ c.pass.invariant.1, c.pass.invariant.2 ∙ sym (ap (λ u. u.me) made.same))
