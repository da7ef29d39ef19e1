use Rattle.std.proofs.Common.{arith}
use Rattle.pf_heap.specs.Forest.{nowhere}
use Rattle.pf_heap.proofs.Standing.{head_within, sibling_at}
use Rattle.pf_heap.proofs.Pops.{root_stands, seek_begun, seek_step, seeking_within, found_out, found_all}
use Rattle.pf_heap.proofs.popping.least_root.Goals as goal

pub loop-step-init : goal.loop-step-init
loop-step-init c = λ can.
    let within = head_within _ _ can.heap _ can.parts.stand.0 can.heap_is c.requires.some in
    seek_begun c.args.nodes.now c.args.link _ c.args.meter.now can.heap can.others can.heap_is c.requires.some can.rises can.parts
    (sibling_at c.args.nodes.now c.args.link c.index-nodes-link.result within)

pub returns-then-rest : goal.returns-then-rest
returns-then-rest c = λ can. found_out (c.loop-step.invariant can) can.small c.if-rest.true

pub earlier-best-requires-clause-first : goal.earlier-best-requires-clause-first
earlier-best-requires-clause-first c =
    let can = c.requires.can in
    let t = c.loop-step.invariant can in
    (root_stands c.args.nodes.now nowhere _ t.key t.rank t.kids can.heap can.parts.stand.0 t.has).within

pub earlier-best-requires-clause-second : goal.earlier-best-requires-clause-second
earlier-best-requires-clause-second c = seeking_within (c.loop-step.invariant c.requires.can) c.if-rest.false

pub bounds-nodes-rest : goal.bounds-nodes-rest
bounds-nodes-rest c = seeking_within (c.loop-step.invariant c.requires.can) c.if-rest.false

pub bounds-nodes-rest-else-rest : goal.bounds-nodes-rest-else-rest
bounds-nodes-rest-else-rest c = seeking_within (c.loop-step.invariant c.requires.can) c.if-rest.false

pub loop-step-preserved : goal.loop-step-preserved
loop-step-preserved c = λ can.
    let t = c.loop-step.invariant can in
    seek_step c.args.nodes.now can.heap c.loop-step.best _ c.loop-step.rest _ c.loop-step.step c.args.meter.now c.loop-step.meter c.earlier-best.new.meter
    c.if-rest.false (sibling_at c.args.nodes.now c.loop-step.rest c.index-nodes-rest.result (seeking_within t c.if-rest.false))
    can.parts.stand.0 c.earlier-best.ensures.earlier c.earlier-best.ensures.counted t

pub returns : goal.returns
returns c = λ can. found_all (c.loop-step.invariant can) (omega arith) can.small can.parts
