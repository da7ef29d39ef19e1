use Rattle.std.proofs.Common.{◌^◌, ◌≤◌, ap, sym, ◌∙◌, subst, arith}
use Rattle.std.proofs.lemmas.List.{get_or_read}
use Rattle.pf_heap.specs.declared.node.Node.{Node}
use Rattle.pf_heap.specs.Memory.{no_node}
use Rattle.pf_heap.proofs.TableTakes.{first_low, first_within, first_node, first_bits, kids_list, kids_within, first_taken, without_rank}
use Rattle.pf_heap.proofs.taking.take_first.Goals as goal

pub first-at-requires-clause-can : goal.first-at-requires-clause-can
first-at-requires-clause-can c = c.requires.can

pub bounds-nodes-at : goal.bounds-nodes-at
bounds-nodes-at c = first_within c.requires.can (c.first-at.ensures c.requires.can)

pub strip-requires : goal.strip-requires
strip-requires c = first_within c.requires.can (c.first-at.ensures c.requires.can)

pub remove-requires-clause-low : goal.remove-requires-clause-low
remove-requires-clause-low c =
    let can = c.requires.can in
    let f = c.first-at.ensures can in
    let read = get_or_read c.args.nodes.now c.first-at.result c.index-nodes-at.result (first_within can f) c.index-nodes-at.is no_node ∙ first_node can f in
    let rank_is = ap (λ (n : Node). n.rank) read in
    omega (arith, rank_is, first_low can f)

pub remove-requires-clause-some : goal.remove-requires-clause-some
remove-requires-clause-some c =
    let can = c.requires.can in
    let f = c.first-at.ensures can in
    let read = get_or_read c.args.nodes.now c.first-at.result c.index-nodes-at.result (first_within can f) c.index-nodes-at.is no_node ∙ first_node can f in
    let rank_is = ap (λ (n : Node). n.rank) read in
    subst (λ r. 2 ^ r ≤ c.args.roots.now.ranks) (sym rank_is) (first_bits can f)

pub add_all-requires : goal.add_all-requires
add_all-requires c =
    let can = c.requires.can in
    let f = c.first-at.ensures can in
    let read = get_or_read c.args.nodes.now c.first-at.result c.index-nodes-at.result (first_within can f) c.index-nodes-at.is no_node ∙ first_node can f in
    let rank_is = ap (λ (n : Node). n.rank) read in
    record {
      can = kids_list can f c.strip.ensures (omega (arith, can.small)) (without_rank c.args.roots.now rank_is c.remove.ensures) (ap (λ (n : Node). n.child) read);
    }

pub release-requires : goal.release-requires
release-requires c =
    let can = c.requires.can in
    let f = c.first-at.ensures can in
    let read = get_or_read c.args.nodes.now c.first-at.result c.index-nodes-at.result (first_within can f) c.index-nodes-at.is no_node ∙ first_node can f in
    let rank_is = ap (λ (n : Node). n.rank) read in
    let less = without_rank c.args.roots.now rank_is c.remove.ensures in
    kids_within can f c.strip.ensures (omega (arith, can.small)) less (ap (λ (n : Node). n.child) read)
    (c.add_all.ensures (kids_list can f c.strip.ensures (omega (arith, can.small)) less (ap (λ (n : Node). n.child) read)))

pub returns : goal.returns
returns c = λ can.
    let f = c.first-at.ensures can in
    let read = get_or_read c.args.nodes.now c.first-at.result c.index-nodes-at.result (first_within can f) c.index-nodes-at.is no_node ∙ first_node can f in
    let rank_is = ap (λ (n : Node). n.rank) read in
    let less = without_rank c.args.roots.now rank_is c.remove.ensures in
    first_taken can f c.strip.ensures (omega (arith, can.small)) less (ap (λ (n : Node). n.child) read)
    (c.add_all.ensures (kids_list can f c.strip.ensures (omega (arith, can.small)) less (ap (λ (n : Node). n.child) read))) c.release.ensures
