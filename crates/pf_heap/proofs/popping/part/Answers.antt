use Rattle.std.proofs.Common.{arith}
use Rattle.pf_heap.proofs.Standing.{sibling_at}
use Rattle.pf_heap.proofs.Parting.{root_within, last_within, parted_first, parted_later}
use Rattle.pf_heap.proofs.popping.part.Goals as goal

pub bounds-nodes-at : goal.bounds-nodes-at
bounds-nodes-at c = root_within c.requires.can

pub bounds-nodes-at-2 : goal.bounds-nodes-at-2
bounds-nodes-at-2 c = root_within c.requires.can

pub returns-then-link-at : goal.returns-then-link-at
returns-then-link-at c = λ can.
    parted_first c.args.nodes.now _ _ _ _ can c.if-link-at.true (sibling_at c.args.nodes.now c.args.at c.index-nodes-at.result (root_within can)) c.relink.ensures

pub relink-requires-2 : goal.relink-requires-2
relink-requires-2 c = root_within c.requires.can

pub relink-requires-3 : goal.relink-requires-3
relink-requires-3 c =
    let can = c.requires.can in
    omega (arith, last_within can _ (c.before-last.ensures can))

pub returns : goal.returns
returns c = λ can.
    parted_later can _ (c.before-last.ensures can) (sibling_at c.args.nodes.now c.args.at c.index-nodes-at.result (root_within can))
    c.relink-2.ensures c.relink-3.ensures
