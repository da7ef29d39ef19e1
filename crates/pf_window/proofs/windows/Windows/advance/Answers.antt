use Rattle.std.proofs.Common.{arith}
use Rattle.pf_window.proofs.Advancing.{windows_less, windows_over}
use Rattle.pf_window.proofs.windows.Windows.advance.Goals as goal

pub invariant_of-self : goal.invariant_of-self
invariant_of-self c =
    let small = rw (← c.self.view_is) at c.requires in
    windows_less c.self.inside.weight c.self.inside.sub c.self.inside.release c.self.inside.floor c.self.inside.rest c.self.inside.step c.self.inside.part c.from.result c.self.invariant
    small c.from.ensures (omega (arith, c.if-rest-cost.true, c.cost-cost.ensures.value))

pub invariant_of-self-else-rest-cost : goal.invariant_of-self-else-rest-cost
invariant_of-self-else-rest-cost c =
    let small = rw (← c.self.view_is) at c.requires in
    windows_over c.self.inside.weight c.self.inside.sub c.self.inside.release c.self.inside.floor c.self.inside.rest c.self.inside.step c.self.inside.part c.from-else-rest-cost.result c.cost-cost.result c.self.invariant
    small c.from-else-rest-cost.ensures c.cost-cost.ensures.value (omega (arith, c.if-rest-cost.false))
