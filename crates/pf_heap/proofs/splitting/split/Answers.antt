use Rattle.std.proofs.Common.{◌+◌, ◌-◌, ap, ◌∙◌, arith}
use Rattle.std.proofs.lemmas.List.{get_or_default}
use Rattle.pf_heap.specs.declared.node.Node.{Node}
use Rattle.pf_heap.specs.Memory.{no_node}
use Rattle.pf_heap.proofs.Halves.{split_begun_at, root_within, root_rank, half_within, half_rank, child_of, child_within, child_differs, halves_of, split_on, split_done}
use Rattle.pf_heap.proofs.splitting.split.Goals as goal

pub bounds-nodes-root : goal.bounds-nodes-root
bounds-nodes-root c = root_within c.requires.can

pub bounds-nodes-root-2 : goal.bounds-nodes-root-2
bounds-nodes-root-2 c = root_within c.requires.can

pub loop-step-init : goal.loop-step-init
loop-step-init c = λ can rank e. split_begun_at _ _ _ can rank e

pub bounds-nodes-half : goal.bounds-nodes-half
bounds-nodes-half c =
    let can = c.requires.can in
    let rank_is = ap (λ (n : Node). n.rank) (get_or_default c.args.nodes.now c.args.root c.index-nodes-root.result no_node (root_within can)) ∙ root_rank can in
    half_within (can.rank - (c.loop-step.step + 1)) (c.loop-step.invariant can ((can.rank - (c.loop-step.step + 1)) + 1) (omega (arith, rank_is)))

pub bounds-nodes-half-in-loop-step : goal.bounds-nodes-half-in-loop-step
bounds-nodes-half-in-loop-step c =
    let can = c.requires.can in
    let rank_is = ap (λ (n : Node). n.rank) (get_or_default c.args.nodes.now c.args.root c.index-nodes-root.result no_node (root_within can)) ∙ root_rank can in
    half_within (can.rank - (c.loop-step.step + 1)) (c.loop-step.invariant can ((can.rank - (c.loop-step.step + 1)) + 1) (omega (arith, rank_is)))

pub unlink-requires-clause-upper : goal.unlink-requires-clause-upper
unlink-requires-clause-upper c =
    let can = c.requires.can in
    let rank_is = ap (λ (n : Node). n.rank) (get_or_default c.args.nodes.now c.args.root c.index-nodes-root.result no_node (root_within can)) ∙ root_rank can in
    half_within (can.rank - (c.loop-step.step + 1)) (c.loop-step.invariant can ((can.rank - (c.loop-step.step + 1)) + 1) (omega (arith, rank_is)))

pub unlink-requires-clause-lower : goal.unlink-requires-clause-lower
unlink-requires-clause-lower c =
    let can = c.requires.can in
    let rank_is = ap (λ (n : Node). n.rank) (get_or_default c.args.nodes.now c.args.root c.index-nodes-root.result no_node (root_within can)) ∙ root_rank can in
    let m = c.loop-step.invariant can ((can.rank - (c.loop-step.step + 1)) + 1) (omega (arith, rank_is)) in
    let child_is = ap (λ (n : Node). n.child) (get_or_default c.loop-step.nodes c.loop-step.half c.index-nodes-half.result no_node (half_within (can.rank - (c.loop-step.step + 1)) m)) in
    child_within (can.rank - (c.loop-step.step + 1)) m child_is (child_of (can.rank - (c.loop-step.step + 1)) m child_is)

pub unlink-requires-clause-child : goal.unlink-requires-clause-child
unlink-requires-clause-child c =
    let can = c.requires.can in
    let rank_is = ap (λ (n : Node). n.rank) (get_or_default c.args.nodes.now c.args.root c.index-nodes-root.result no_node (root_within can)) ∙ root_rank can in
    let m = c.loop-step.invariant can ((can.rank - (c.loop-step.step + 1)) + 1) (omega (arith, rank_is)) in
    let child_is = ap (λ (n : Node). n.child) (get_or_default c.loop-step.nodes c.loop-step.half c.index-nodes-half.result no_node (half_within (can.rank - (c.loop-step.step + 1)) m)) in
    child_is

pub unlink-requires-clause-differ : goal.unlink-requires-clause-differ
unlink-requires-clause-differ c =
    let can = c.requires.can in
    let rank_is = ap (λ (n : Node). n.rank) (get_or_default c.args.nodes.now c.args.root c.index-nodes-root.result no_node (root_within can)) ∙ root_rank can in
    let m = c.loop-step.invariant can ((can.rank - (c.loop-step.step + 1)) + 1) (omega (arith, rank_is)) in
    let child_is = ap (λ (n : Node). n.child) (get_or_default c.loop-step.nodes c.loop-step.half c.index-nodes-half.result no_node (half_within (can.rank - (c.loop-step.step + 1)) m)) in
    child_differs (can.rank - (c.loop-step.step + 1)) m child_is (child_of (can.rank - (c.loop-step.step + 1)) m child_is)

pub unlink-requires-clause-rank : goal.unlink-requires-clause-rank
unlink-requires-clause-rank c =
    let can = c.requires.can in
    let rank_is = ap (λ (n : Node). n.rank) (get_or_default c.args.nodes.now c.args.root c.index-nodes-root.result no_node (root_within can)) ∙ root_rank can in
    let m = c.loop-step.invariant can ((can.rank - (c.loop-step.step + 1)) + 1) (omega (arith, rank_is)) in
    omega (arith, half_rank (can.rank - (c.loop-step.step + 1)) m)

pub keep_half-kept-requires : goal.keep_half-kept-requires
keep_half-kept-requires c =
    let can = c.requires.can in
    let rank_is = ap (λ (n : Node). n.rank) (get_or_default c.args.nodes.now c.args.root c.index-nodes-root.result no_node (root_within can)) ∙ root_rank can in
    let m = c.loop-step.invariant can ((can.rank - (c.loop-step.step + 1)) + 1) (omega (arith, rank_is)) in
    let child_is = ap (λ (n : Node). n.child) (get_or_default c.loop-step.nodes c.loop-step.half c.index-nodes-half.result no_node (half_within (can.rank - (c.loop-step.step + 1)) m)) in
    record { can = halves_of (can.rank - (c.loop-step.step + 1)) m child_is (child_of (can.rank - (c.loop-step.step + 1)) m child_is) c.unlink.ensures (omega (arith, can.small)) }

pub loop-step-preserved : goal.loop-step-preserved
loop-step-preserved c = λ can rank e.
    let m = c.loop-step.invariant can (rank + 1) (omega (arith, e)) in
    let child_is = ap (λ (n : Node). n.child) (get_or_default c.loop-step.nodes c.loop-step.half c.index-nodes-half.result no_node (half_within rank m)) in
    split_on rank m child_is (child_of rank m child_is) c.unlink.ensures (omega (arith, can.small)) c.keep_half-kept.ensures

pub returns : goal.returns
returns c = λ can.
    let rank_is = ap (λ (n : Node). n.rank) (get_or_default c.args.nodes.now c.args.root c.index-nodes-root.result no_node (root_within can)) ∙ root_rank can in
    split_done (omega (arith, can.small)) (c.loop-step.invariant can 0 (omega (arith, rank_is)))
