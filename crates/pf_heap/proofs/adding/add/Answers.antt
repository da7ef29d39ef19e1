use Rattle.std.proofs.Common.{arith}
use Rattle.pf_heap.proofs.Carries.{carry_begun, carry_low, rest_list, carry_node, cut_node, carried_out, carried_on}
use Rattle.pf_heap.proofs.adding.add.Goals as goal

pub loop-rank-init : goal.loop-rank-init
loop-rank-init c = λ can. carry_begun _ _ _ _ can

pub cut-tree-requires : goal.cut-tree-requires
cut-tree-requires c = record { can = rest_list (c.loop-rank.invariant c.requires.can) }

pub relink-requires : goal.relink-requires
relink-requires c =
    let m = c.loop-rank.invariant c.requires.can in
    (carry_node m c.cut-tree.ensures (omega (arith, m.small))).0

pub returns-then-tree : goal.returns-then-tree
returns-then-tree c = λ can.
    let m = c.loop-rank.invariant can in
    carried_out m c.cut-tree.ensures (omega (arith, m.small)) c.if-tree.true c.relink.ensures

pub join-carry-requires-clause-first : goal.join-carry-requires-clause-first
join-carry-requires-clause-first c =
    let m = c.loop-rank.invariant c.requires.can in
    (carry_node m c.cut-tree.ensures (omega (arith, m.small))).0

pub join-carry-requires-clause-second : goal.join-carry-requires-clause-second
join-carry-requires-clause-second c =
    let m = c.loop-rank.invariant c.requires.can in
    (cut_node m c.cut-tree.ensures (omega (arith, m.small)) c.if-tree.false).0

pub join-carry-requires-clause-first_rank : goal.join-carry-requires-clause-first_rank
join-carry-requires-clause-first_rank c =
    let m = c.loop-rank.invariant c.requires.can in
    omega (arith, (carry_node m c.cut-tree.ensures (omega (arith, m.small))).1, carry_low m)

pub join-carry-requires-clause-second_rank : goal.join-carry-requires-clause-second_rank
join-carry-requires-clause-second_rank c =
    let m = c.loop-rank.invariant c.requires.can in
    omega (arith, (cut_node m c.cut-tree.ensures (omega (arith, m.small)) c.if-tree.false).1, carry_low m)

pub loop-rank-preserved : goal.loop-rank-preserved
loop-rank-preserved c = λ can.
    let m = c.loop-rank.invariant can in
    carried_on m c.cut-tree.ensures (omega (arith, m.small)) c.if-tree.false c.join-carry.ensures.joined c.join-carry.ensures.counted (omega (arith, m.small))

pub returns : goal.returns
returns c = λ can. absurd (omega (arith, carry_low (c.loop-rank.invariant can)))
