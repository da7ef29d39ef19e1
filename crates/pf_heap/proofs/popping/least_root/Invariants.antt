use Rattle.pf_heap.specs.Pops.{HasHeap, IsSeeking}
use Rattle.pf_heap.proofs.popping.least_root.Given as goal

abbrev pub invariant-loop-step : goal.invariant-loop-step
invariant-loop-step l =
    (can : HasHeap l.nodes l.fn.link) → IsSeeking l.nodes can.heap l.best l.rest l.step l.fn.meter l.meter
