use Rattle.std.proofs.Common.{ap, arith}
use Rattle.pf_board.proofs.Takes.{gets}
use Rattle.pf_board.proofs.board.Board.take.Goals as goal

pub returns-clause-taken : goal.returns-clause-taken
returns-clause-taken g c =
    let q = c.in-Some.ensures in
    let l = c.look.ensures in
    (omega (arith, c.self.invariant.1, ap (λ x. x.processors) c.self.view_is), gets g.I.Issues.legal g.I.Issues.quanta c.args.processor c.peek-word.result.bits c.look.result c.in-Some.quantum c.args.pass.now c.peek-word.new.pass c.grab.new.pass c.look.new.pass c.peek-word.ensures c.if-not-grab.ensures l.pass l.found l.issued l.front q.0 q.1)
