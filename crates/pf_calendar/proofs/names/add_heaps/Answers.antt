use Rattle.std.proofs.Common.{arith, ◌∙◌}
use Rattle.pf_calendar.proofs.Merging.{adds_more}
use Rattle.pf_calendar.proofs.names.add_heaps.Goals as goal

pub loop-i-preserved : goal.loop-i-preserved
loop-i-preserved c = record {
  adds = adds_more _ _ _ _ _ _ _ _ c.loop-i.invariant.adds c.in_ok-heap.ensures.ok.0 c.in_ok-heap.ensures.ok.1 c.push_reserved.ensures.items;
  long = omega (arith, c.loop-i.invariant.long, c.push_reserved.ensures.len);
  capacity = c.push_reserved.ensures.capacity ∙ c.loop-i.invariant.capacity;
}
