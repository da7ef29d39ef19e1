use Rattle.std.proofs.Common.{sym}
use Rattle.pf_window.proofs.Advancing.{due_whole, due_part}
use Rattle.pf_window.proofs.windows.Windows.deadline.Goals as goal

pub returns-then-self-eq0-clause-value : goal.returns-then-self-eq0-clause-value
returns-then-self-eq0-clause-value c =
    let w = c.self.inside in
    let h = c.self.invariant in
    rw (← c.self.view_is) (sym (due_whole w.weight w.sub w.floor w.rest h.share h.whole h.left c.if-self-eq0.true))

pub returns-else-self-eq0-clause-value : goal.returns-else-self-eq0-clause-value
returns-else-self-eq0-clause-value c =
    let w = c.self.inside in
    let h = c.self.invariant in
    rw (← c.self.view_is) (sym (due_part w.weight w.sub w.floor w.rest h.share h.whole h.left c.if-self-eq0.false))
