use Rattle.pf_heap.specs.Pops.{HasHeapAndRoot, IsPassing}
use Rattle.pf_heap.proofs.popping.before.Given as goal

abbrev pub invariant-loop-step : goal.invariant-loop-step
invariant-loop-step l =
    (can : HasHeapAndRoot l.nodes l.fn.link l.at) → IsPassing l.nodes can.heap l.at can.key can.rank can.kids l.now l.step
