use Rattle.std.proofs.Common.{arith}
use Rattle.pf_heap.proofs.Whole.{name_within, no_keys, has_heap, least_node, is_first, least_counted}
use Rattle.pf_heap.proofs.arena.Arena.least.Goals as goal

pub index-head-requires : goal.index-head-requires
index-head-requires c = name_within c.self.invariant c.self.view_is c.h.view_is c.self.inside.heads.ok.0 c.requires

pub returns-then-head-clause-first : goal.returns-then-head-clause-first
returns-then-head-clause-first c = no_keys c.self.invariant c.self.view_is c.h.view_is c.requires c.index-head.ensures c.if-head.true

pub least_root-at-requires-clause-can : goal.least_root-at-requires-clause-can
least_root-at-requires-clause-can c = has_heap c.self.invariant c.self.view_is c.h.view_is c.requires c.index-head.ensures c.deref.ensures.value

pub index-requires : goal.index-requires
index-requires c =
    let node = least_node c.self.invariant c.self.view_is c.h.view_is c.requires c.index-head.ensures c.deref.ensures.value c.least_root-at.ensures in
    omega (arith, c.self.inside.nodes.ok.0, node.within)

pub returns-clause-first : goal.returns-clause-first
returns-clause-first c =
    is_first c.self.invariant c.self.view_is c.h.view_is c.requires c.index-head.ensures c.deref.ensures.value c.least_root-at.ensures c.index.ensures

pub returns-clause-comparisons : goal.returns-clause-comparisons
returns-clause-comparisons c =
    least_counted c.self.invariant c.self.view_is c.h.view_is c.requires c.index-head.ensures c.deref.ensures.value c.least_root-at.ensures
