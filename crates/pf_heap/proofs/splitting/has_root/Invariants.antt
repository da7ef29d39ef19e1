use Rattle.pf_heap.specs.Pops.{HasHeap}
use Rattle.pf_heap.specs.Split.{IsLooking}
use Rattle.pf_heap.proofs.splitting.has_root.Given as goal

abbrev pub invariant-loop-step : goal.invariant-loop-step
invariant-loop-step l = (can : HasHeap l.nodes l.fn.link) → IsLooking l.nodes can.heap l.at l.rest l.step
