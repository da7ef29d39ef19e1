use Rattle.pf_heap.specs.Table.{HasTable, IsSeekingIn}
use Rattle.pf_heap.proofs.table.Roots.first.Given as goal

abbrev pub invariant-loop-step : goal.invariant-loop-step
invariant-loop-step l = (can : HasTable l.nodes l.self) → IsSeekingIn can.trees l.best l.rest l.step l.fn.meter l.meter
