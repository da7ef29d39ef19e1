use Rattle.std.proofs.Common.{◌≤◌, ap, sym, ◌∙◌, arith}
use Rattle.std.proofs.lemmas.List.{get_or_default}
use Rattle.pf_heap.specs.declared.node.Node.{Node}
use Rattle.pf_heap.specs.Forest.{nowhere}
use Rattle.pf_heap.specs.Memory.{no_node, node_at}
use Rattle.pf_heap.proofs.Parents.{node_within}
use Rattle.pf_heap.proofs.Climb.{climb_begun, climb_step, not_so_high, climbed_to}
use Rattle.pf_heap.proofs.splitting.top.Goals as goal

pub loop-step-init : goal.loop-step-init
loop-step-init c = climb_begun _ _

pub bounds-nodes-now : goal.bounds-nodes-now
bounds-nodes-now c =
    let can = c.requires.can in
    node_within c.args.nodes.now nowhere c.loop-step.now can.heap can.parts.stand.0 (c.loop-step.invariant.above can.heap can.parts.stand.0 can.has)

pub bounds-nodes-now-in-loop-step : goal.bounds-nodes-now-in-loop-step
bounds-nodes-now-in-loop-step c =
    let can = c.requires.can in
    node_within c.args.nodes.now nowhere c.loop-step.now can.heap can.parts.stand.0 (c.loop-step.invariant.above can.heap can.parts.stand.0 can.has)

pub returns-then-parent : goal.returns-then-parent
returns-then-parent c =
    let can = c.requires.can in
    let t = c.loop-step.invariant in
    let within = node_within c.args.nodes.now nowhere c.loop-step.now can.heap can.parts.stand.0 (t.above can.heap can.parts.stand.0 can.has) in
    record {
      above = t.above;
      in_tree = t.in_tree;
      no_parent = ap (λ (n : Node). n.parent) (sym (get_or_default c.args.nodes.now c.loop-step.now c.index-nodes-now.result no_node within)) ∙ c.if-parent.true;
    }

pub loop-step-preserved : goal.loop-step-preserved
loop-step-preserved c =
    let can = c.requires.can in
    let t = c.loop-step.invariant in
    let within = node_within c.args.nodes.now nowhere c.loop-step.now can.heap can.parts.stand.0 (t.above can.heap can.parts.stand.0 can.has) in
    let e = ap (λ (n : Node). n.parent) (get_or_default c.args.nodes.now c.loop-step.now c.index-nodes-now.result no_node within) in
    climbed_to _ e (climb_step c.args.nodes.now c.args.at c.loop-step.now c.loop-step.step can.heap can.rises can.parts.stand.0 can.has
    (λ z. c.if-parent.false (e ∙ z)) t)

pub returns : goal.returns
returns c =
    let can = c.requires.can in
    let t = c.loop-step.invariant in
    let high : 16 ≤ (node_at c.args.nodes.now c.loop-step.now).rank = omega (arith, t.high) in
    absurd (not_so_high c.args.nodes.now c.loop-step.now can.heap can.others can.small can.parts can.rises (t.above can.heap can.parts.stand.0 can.has) high)
