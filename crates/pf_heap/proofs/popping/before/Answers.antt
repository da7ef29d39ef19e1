use Rattle.std.proofs.Common.{arith}
use Rattle.pf_heap.proofs.Standing.{sibling_at}
use Rattle.pf_heap.proofs.Parting.{pass_begun, pass_step, found_before, passing_within, not_all_passed}
use Rattle.pf_heap.proofs.popping.before.Goals as goal

pub loop-step-init : goal.loop-step-init
loop-step-init c = λ can. pass_begun _ _ _ can c.requires.behind

pub bounds-nodes-now : goal.bounds-nodes-now
bounds-nodes-now c = passing_within (c.loop-step.invariant c.requires.can)

pub bounds-nodes-now-in-loop-step : goal.bounds-nodes-now-in-loop-step
bounds-nodes-now-in-loop-step c = passing_within (c.loop-step.invariant c.requires.can)

pub returns-then-next-at : goal.returns-then-next-at
returns-then-next-at c = λ can.
    let t = c.loop-step.invariant can in
    found_before _ can.heap _ _ _ _ _ _ _ (sibling_at c.args.nodes.now c.loop-step.now c.index-nodes-now.result (passing_within t)) c.if-next-at.true t

pub loop-step-preserved : goal.loop-step-preserved
loop-step-preserved c = λ can.
    let t = c.loop-step.invariant can in
    pass_step _ can.heap _ _ _ _ _ _ _ (sibling_at c.args.nodes.now c.loop-step.now c.index-nodes-now.result (passing_within t)) c.if-next-at.false t

pub returns : goal.returns
returns c = λ can. absurd (not_all_passed (c.loop-step.invariant can) (omega arith) can.small can.parts)
