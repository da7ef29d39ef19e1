use Rattle.std.proofs.Common.{refl, arith}
use Rattle.pf_heap.proofs.Standing.{sibling_at}
use Rattle.pf_heap.proofs.Climb.{look_begun, look_step, look_found, looking_within, missed_out, missed_all}
use Rattle.pf_heap.proofs.splitting.has_root.Goals as goal

pub loop-step-init : goal.loop-step-init
loop-step-init c = λ can. look_begun _ _ _ can

pub returns-then-rest : goal.returns-then-rest
returns-then-rest c = λ can. (λ h. cc, λ h. absurd (missed_out (c.loop-step.invariant can) can.small c.if-rest.true h))

pub returns-then-rest-at : goal.returns-then-rest-at
returns-then-rest-at c = λ can.
    let t = c.loop-step.invariant can in (
      λ _. look_found c.args.nodes.now can.heap c.args.at c.loop-step.rest c.loop-step.rest c.loop-step.step can.small c.requires.root c.if-rest.false c.if-rest-at.true t,
      λ _. refl,
    )

pub bounds-nodes-rest : goal.bounds-nodes-rest
bounds-nodes-rest c = looking_within (c.loop-step.invariant c.requires.can) c.if-rest.false

pub bounds-nodes-rest-else-rest-at : goal.bounds-nodes-rest-else-rest-at
bounds-nodes-rest-else-rest-at c = looking_within (c.loop-step.invariant c.requires.can) c.if-rest.false

pub loop-step-preserved : goal.loop-step-preserved
loop-step-preserved c = λ can.
    let t = c.loop-step.invariant can in
    look_step c.args.nodes.now can.heap c.args.at c.loop-step.rest _ c.loop-step.step can.small c.requires.root c.if-rest.false c.if-rest-at.false
    (sibling_at c.args.nodes.now c.loop-step.rest c.index-nodes-rest.result (looking_within t c.if-rest.false)) t

pub returns : goal.returns
returns c = λ can. (λ h. cc, λ h. absurd (missed_all (c.loop-step.invariant can) (omega arith) can.small can.parts h))
