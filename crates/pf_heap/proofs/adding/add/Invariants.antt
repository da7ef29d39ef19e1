use Rattle.pf_heap.specs.Steps.{HasNodeAndList, IsCarrying}
use Rattle.pf_heap.proofs.adding.add.Given as goal

abbrev pub invariant-loop-rank : goal.invariant-loop-rank
invariant-loop-rank l =
    (can : HasNodeAndList l.fn.nodes l.fn.at l.fn.link) → IsCarrying l.nodes l.rank can.added can.list can.others l.carry l.rest l.fn.meter l.meter
