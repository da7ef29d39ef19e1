use Rattle.std.proofs.Common.{sym, ap, ◌∙◌, refl, arith}
use Rattle.pf_board.proofs.Cells.{takes}
use Rattle.pf_board.proofs.Fronts.{pass_taken, taken_me}
use Rattle.pf_board.proofs.Takes.{grabbed}
use Rattle.pf_board.proofs.board.Board.grab.Goals as goal

pub compare_exchange-found-requires : goal.compare_exchange-found-requires
compare_exchange-found-requires g c =
    let b = c.self.inside.table.shared in
    let s = c.pass.inside.seat in
    (ap (λ p. p.board) c.pass.view_is ∙ (c.requires.board ∙ sym (ap (λ x. x.id) c.self.view_is)), omega (arith, c.requires.inside, c.self.invariant.0, c.self.invariant.1, ap (λ x. x.processors) c.self.view_is), takes g.I.Issues.legal g.I.Issues.quanta g.I.Issues.steps b.key b.table_id.slots s.id c.args.processor c.args.word.bits s.me c.pass.invariant.0.named (omega (arith, c.requires.some)))

pub invariant_of-pass : goal.invariant_of-pass
invariant_of-pass g c =
    let p = c.pass.inside.seat.me.0 in
    let e = c.compare_exchange-found.ensures.2 in
    let made = e.0 c.args.processor refl in
    (pass_taken g.I.Issues.legal c.args.processor c.args.word.bits p c.compare_exchange-found.result c.compare_exchange-found.new.seat.me.0 c.pass.invariant.0 made, e.1 ∙ c.pass.invariant.1, c.pass.invariant.2 ∙ sym (taken_me c.args.processor c.args.word.bits p c.compare_exchange-found.result c.compare_exchange-found.new.seat.me.0 made))

pub returns : goal.returns
returns g c =
    let s = c.pass.inside.seat in
    let e = c.compare_exchange-found.ensures in
    grabbed s.table_id c.compare_exchange-found.new.seat.table_id c.args.pass.now c.args.processor c.args.word.bits c.compare_exchange-found.result s.me.0 c.compare_exchange-found.new.seat.me.0 c.pass.view_is e.0 (e.2.0 c.args.processor refl)
