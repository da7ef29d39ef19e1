use Rattle.std.proofs.Common.{refl, arith}
use Rattle.pf_convert.proofs.Stretches.{stretch_loaded, too_costly}
use Rattle.pf_convert.proofs.best_base.load_over.Goals as goal

pub returns-then-totals-next : goal.returns-then-totals-next
returns-then-totals-next c =
    too_costly c.args.divided.now c.args.tasks.now c.args.totals.now c.stretches.done c.index_after-next.result c.stretch_of-stretch.result _ _
    c.stretches-test.true c.index_after-next.ensures.after c.index_after-next.ensures.within c.requires.slotted c.requires.rising
    c.requires.totals c.stretch_of-stretch.ensures.stretch c.stretch_of-stretch.ensures.divisor c.index_after-next.ensures.below c.if-totals-next.true

pub overflow_sub-load : goal.overflow_sub-load
overflow_sub-load c =
    (stretch_loaded c.args.divided.now c.args.tasks.now c.args.totals.now c.stretches.done c.index_after-next.result c.stretches.load c.stretch_of-stretch.result.share
    c.stretch_of-stretch.result _ (record { cost = 0; greatest = 0 }) _ c.stretches-test.true c.index_after-next.ensures.after c.index_after-next.ensures.within c.requires.slotted c.requires.rising
    c.requires.totals c.requires.divided
    c.stretch_of-stretch.ensures.stretch c.stretch_of-stretch.ensures.divisor c.index_after-next.ensures.below c.if-totals-next.false refl
    c.stretches.invariant.1).1

pub overflow_mul-load : goal.overflow_mul-load
overflow_mul-load c =
    let on =
    stretch_loaded c.args.divided.now c.args.tasks.now c.args.totals.now c.stretches.done c.index_after-next.result c.stretches.load c.from.result
    c.stretch_of-stretch.result _ (record { cost = 0; greatest = 0 }) _ c.stretches-test.true c.index_after-next.ensures.after c.index_after-next.ensures.within c.requires.slotted c.requires.rising
    c.requires.totals c.requires.divided
    c.stretch_of-stretch.ensures.stretch c.stretch_of-stretch.ensures.divisor c.index_after-next.ensures.below c.if-totals-next.false c.from.ensures
    c.stretches.invariant.1 in
    omega (arith, on.0.small, c.index_after-next.ensures.within, c.requires.few)

pub overflow_add-load : goal.overflow_add-load
overflow_add-load c =
    let on =
    stretch_loaded c.args.divided.now c.args.tasks.now c.args.totals.now c.stretches.done c.index_after-next.result c.stretches.load c.from.result
    c.stretch_of-stretch.result _ (record { cost = 0; greatest = 0 }) _ c.stretches-test.true c.index_after-next.ensures.after c.index_after-next.ensures.within c.requires.slotted c.requires.rising
    c.requires.totals c.requires.divided
    c.stretch_of-stretch.ensures.stretch c.stretch_of-stretch.ensures.divisor c.index_after-next.ensures.below c.if-totals-next.false c.from.ensures
    c.stretches.invariant.1 in
    omega (arith, on.0.small, c.index_after-next.ensures.within, c.requires.few)

pub stretches-preserved : goal.stretches-preserved
stretches-preserved c =
    let on =
    stretch_loaded c.args.divided.now c.args.tasks.now c.args.totals.now c.stretches.done c.index_after-next.result c.stretches.load c.from.result
    c.stretch_of-stretch.result _ (record { cost = 0; greatest = 0 }) _ c.stretches-test.true c.index_after-next.ensures.after c.index_after-next.ensures.within c.requires.slotted c.requires.rising
    c.requires.totals c.requires.divided
    c.stretch_of-stretch.ensures.stretch c.stretch_of-stretch.ensures.divisor c.index_after-next.ensures.below c.if-totals-next.false c.from.ensures
    c.stretches.invariant.1 in
    (c.stretch_of-stretch.ensures.stretch, on.0, c.index_after-next.ensures.within)
