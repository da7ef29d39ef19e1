use Rattle.std.proofs.Common.{arith}
use Rattle.pf_heap.proofs.Whole.{heads_long}
use Rattle.pf_heap.proofs.Beginning.{heaps_added, heaps_added_view}
use Rattle.pf_heap.proofs.arena.Arena.new_heap.Goals as goal

pub invariant_of-self-2 : goal.invariant_of-self-2
invariant_of-self-2 c = heaps_added c.self.invariant 1 c.in_ok-push.ensures.items

pub returns-clause-ok : goal.returns-clause-ok
returns-clause-ok c = (
  omega (arith, heads_long c.self.invariant c.self.view_is, c.len-index.ensures, c.self.inside.heads.ok.0),
  heaps_added_view c.self.invariant 1 c.in_ok-push.ensures.items c.self.view_is,
)
