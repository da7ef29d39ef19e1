use Rattle.pf_heap.specs.Table.{HasListAndTable, IsAddingAll}
use Rattle.pf_heap.proofs.table.Roots.add_all.Given as goal

abbrev pub invariant-loop-step : goal.invariant-loop-step
invariant-loop-step l =
    (can : HasListAndTable l.fn.nodes l.fn.self l.fn.link) → IsAddingAll l.nodes l.self can.up can.list can.trees can.others l.rest l.step l.fn.meter l.meter
