use Rattle.std.proofs.Common.{arith}
use Rattle.std.proofs.lemmas.List.{get_or_read}
use Rattle.pf_heap.specs.Memory.{no_node}
use Rattle.pf_heap.proofs.AddedTrees.{first_and_table, added_on}
use Rattle.pf_heap.proofs.AddedTrees.{adding_begun, adding_within, added_out, added_all, next}
use Rattle.pf_heap.proofs.table.Roots.add_all.Goals as goal

pub loop-step-init : goal.loop-step-init
loop-step-init c = λ can. adding_begun _ _ _ _ can

pub returns-then-rest : goal.returns-then-rest
returns-then-rest c = λ can. added_out (c.loop-step.invariant can) c.if-rest.true

pub bounds-nodes-rest : goal.bounds-nodes-rest
bounds-nodes-rest c = adding_within (c.loop-step.invariant c.requires.can) c.if-rest.false

pub relink-requires : goal.relink-requires
relink-requires c = adding_within (c.loop-step.invariant c.requires.can) c.if-rest.false

pub add-requires-clause-low : goal.add-requires-clause-low
add-requires-clause-low c =
    let m = c.loop-step.invariant c.requires.can in
    let read = get_or_read c.loop-step.nodes c.loop-step.rest c.index-nodes-rest.result (adding_within m c.if-rest.false) c.index-nodes-rest.is no_node in
    (next m c.if-rest.false read).low

pub add-requires-clause-can : goal.add-requires-clause-can
add-requires-clause-can c =
    let m = c.loop-step.invariant c.requires.can in
    let read = get_or_read c.loop-step.nodes c.loop-step.rest c.index-nodes-rest.result (adding_within m c.if-rest.false) c.index-nodes-rest.is no_node in
    first_and_table m c.if-rest.false read c.relink.ensures (omega (arith, m.small)) (next m c.if-rest.false read)

pub loop-step-preserved : goal.loop-step-preserved
loop-step-preserved c = λ can.
    let m = c.loop-step.invariant can in
    let read = get_or_read c.loop-step.nodes c.loop-step.rest c.index-nodes-rest.result (adding_within m c.if-rest.false) c.index-nodes-rest.is no_node in
    added_on m c.if-rest.false read c.relink.ensures (omega (arith, m.small)) (next m c.if-rest.false read) c.add.ensures

pub returns : goal.returns
returns c = λ can. added_all (c.loop-step.invariant can) (omega arith)
