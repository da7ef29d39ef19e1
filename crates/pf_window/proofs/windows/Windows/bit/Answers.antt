use Rattle.std.proofs.Common.{arith}
use Rattle.pf_window.proofs.Advancing.{due_whole, due_part, bit_above}
use Rattle.pf_window.proofs.windows.Windows.bit.Goals as goal

pub returns-then-self-eq0 : goal.returns-then-self-eq0
returns-then-self-eq0 c =
    let w = c.self.inside in
    let h = c.self.invariant in
    rw (← c.self.view_is)
    (omega (arith, bit_above w.weight w.sub w.floor h.whole, due_whole w.weight w.sub w.floor w.rest h.share h.whole h.left c.if-self-eq0.true))

pub returns-else-self-eq0 : goal.returns-else-self-eq0
returns-else-self-eq0 c =
    let w = c.self.inside in
    let h = c.self.invariant in
    rw (← c.self.view_is)
    (omega (arith, bit_above w.weight w.sub w.floor h.whole, due_part w.weight w.sub w.floor w.rest h.share h.whole h.left c.if-self-eq0.false))
