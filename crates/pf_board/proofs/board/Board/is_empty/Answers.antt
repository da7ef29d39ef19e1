use Rattle.std.proofs.Common.{sym, ap, ◌∙◌, refl, arith}
use Rattle.pf_board.proofs.Cells.{checks}
use Rattle.pf_board.proofs.Fronts.{keeper_checked}
use Rattle.pf_board.proofs.board.Board.is_empty.Goals as goal

pub load-requires : goal.load-requires
load-requires g c =
    let b = c.self.inside.table.shared in
    let s = c.keeper.inside.seat in
    let p = c.args.processor in
    (ap (λ p. p.board) c.keeper.view_is ∙ (c.requires.board ∙ sym (ap (λ x. x.id) c.self.view_is)), omega (arith, c.requires.inside, c.self.invariant.0, c.self.invariant.1, ap (λ x. x.processors) c.self.view_is), checks g.I.Issues.legal g.I.Issues.quanta g.I.Issues.steps b.key b.table_id.slots s.id p s.me)

pub invariant_of-keeper : goal.invariant_of-keeper
invariant_of-keeper g c = let e = c.load.ensures.2 in (keeper_checked g.I.Issues.legal c.args.processor c.keeper.inside.seat.me.0 c.load.result c.load.new.seat.me.0 c.keeper.invariant.0 (e.0 c.args.processor refl), e.1 ∙ c.keeper.invariant.1)
