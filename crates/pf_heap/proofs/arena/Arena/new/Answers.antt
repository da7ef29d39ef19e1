use Rattle.pf_heap.proofs.Beginning.{begun_in, begun_view}
use Rattle.pf_heap.proofs.arena.Arena.new.Goals as goal

pub invariant_of-result : goal.invariant_of-result
invariant_of-result c = begun_in c.new.ensures.items c.new-2.ensures.items c.new-3.ensures

pub returns : goal.returns
returns c = begun_view c.new.ensures.items c.new-2.ensures.items c.new-3.ensures
