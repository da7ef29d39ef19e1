use Rattle.std.proofs.Common.{◌-◌, arith}
use Rattle.pf_convert.proofs.MarginsLemmas.Switches.{loop_decided, loop_loaded, loop_refuted}
use Rattle.pf_convert.proofs.margins.switches.has_room.Goals as goal

pub returns-then-cost-task : goal.returns-then-cost-task
returns-then-cost-task c =
    loop_refuted c.args.processors c.args.plan.now c.args.quantum c.args.switch c.args.times.now c.deref-task-items.result.now c.loop-place.place
    c.div_ceil-cost.result _ _ c.requires.plan c.requires.as_many (cc c.deref-task-items.ensures.value) (omega arith) c.div_ceil-cost.ensures c.if-cost-task.true

pub loop-place-preserved : goal.loop-place-preserved
loop-place-preserved c =
    loop_loaded c.args.plan.now (c.args.quantum - c.args.switch) c.args.times.now c.deref-task-items.result.now c.loop-place.place c.loop-place.load
    c.div_ceil-cost.result _ _ c.requires.plan c.requires.as_many (cc c.deref-task-items.ensures.value) (omega arith) c.div_ceil-cost.ensures
    c.if-cost-task.false c.loop-place.invariant

pub returns : goal.returns
returns c =
    loop_decided c.args.processors c.args.plan.now c.args.quantum c.args.switch c.args.times.now c.loop-place.place c.loop-place.load c.requires.as_many
    c.requires.switch (omega arith) c.loop-place.invariant
