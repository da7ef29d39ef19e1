use Rattle.std.specs.Prelude.{◌≡◌}
use Rattle.pf_heap.specs.Table.{HasTreeAndTable, IsCarriedTo}
use Rattle.pf_heap.proofs.table.Roots.add.Given as goal

abbrev pub invariant-loop-now : goal.invariant-loop-now
invariant-loop-now l = record {
  same : l.self ≡ l.fn.self;
  carried : (can : HasTreeAndTable l.fn.nodes l.fn.self l.fn.rank l.fn.at) → IsCarriedTo l.nodes l.now can.added can.trees can.others l.carry l.fn.meter l.meter;
}
