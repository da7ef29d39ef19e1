use Rattle.std.proofs.Common.{◌∙◌, arith, ap, sym, subst, List, [], length}
use Rattle.pf_run.specs.Computed.{run_of}
use Rattle.pf_tally.specs.declared.asking.Asking.{Asking}
use Rattle.pf_tally.proofs.FitSteps.{IsFitAt}
use Rattle.pf_tally.proofs.LedgerFits.{fit_start, few_overload, lent_few, room_few, next_order, next_short, next_limits, kept, ended, end_order, end_short}
use Rattle.pf_tally.proofs.fits.fits.Goals as goal

pub loop-numbered-init : goal.loop-numbered-init
loop-numbered-init c =
    let known = c.in_ok-ledger.ensures in
    let start : IsFitAt c.args.scenario.now (run_of c.args.scenario.now (length c.args.rows.now)) 0 0 c.from-count.result [] _ =
    fit_start _ _ c.in_ok-ledger.ledger known c.from-count.result
    (c.from-count.ensures ∙ c.processors.ensures.value ∙ ap (λ z. z.processors) known.settings) in
    subst (λ (none : List Asking). IsFitAt c.args.scenario.now (run_of c.args.scenario.now (length c.args.rows.now)) 0 0 c.from-count.result none _) (sym c.new-asking.ensures.items) start

pub overflow_mul-base : goal.overflow_mul-base
overflow_mul-base c =
    let few =
    room_few _ _ c.in_ok-ledger.ledger c.in_ok-ledger.ensures _ _ _ _ _ c.loop-numbered.invariant c.get-base.result
    (c.get-base.ensures.value ∙ c.base.ensures.value) in
    omega (arith, few)

pub passed-fit-requires-clause-order : goal.passed-fit-requires-clause-order
passed-fit-requires-clause-order c =
    next_order _ _ c.in_ok-ledger.ledger c.in_ok-ledger.ensures _ _ _ _ _ c.loop-numbered.invariant _ c.deref-numbered-items.ensures.value _
    (omega arith) c.slot-slot.result c.slot-slot.ensures

pub passed-fit-requires-clause-short : goal.passed-fit-requires-clause-short
passed-fit-requires-clause-short c =
    next_short _ _ c.in_ok-ledger.ledger c.in_ok-ledger.ensures _ _ _ _ _ c.loop-numbered.invariant _ c.deref-numbered-items.ensures.value _
    (omega arith) c.slot-slot.result c.slot-slot.ensures

pub passed-fit-requires-clause-load : goal.passed-fit-requires-clause-load
passed-fit-requires-clause-load c =
    lent_few _ _ c.in_ok-ledger.ledger c.in_ok-ledger.ensures _ _ _ _ _ c.loop-numbered.invariant c.deref.result.now c.deref.ensures.value

pub passed-fit-requires-clause-small : goal.passed-fit-requires-clause-small
passed-fit-requires-clause-small c =
    few_overload _ _ c.in_ok-ledger.ledger c.in_ok-ledger.ensures _ _ _ _ _ c.loop-numbered.invariant

pub take_event-requires : goal.take_event-requires
take_event-requires c =
    next_limits _ _ c.in_ok-ledger.ledger c.in_ok-ledger.ensures _ _ _ _ _ c.loop-numbered.invariant _ c.deref-numbered-items.ensures.value _
    (omega arith) c.in_ok-ledger.ledger.settings c.in_ok-ledger.ensures.settings

pub loop-numbered-preserved : goal.loop-numbered-preserved
loop-numbered-preserved c =
    kept _ _ c.in_ok-ledger.ledger c.in_ok-ledger.ensures _ _ _ _ _ c.loop-numbered.invariant _ c.deref-numbered-items.ensures.value _
    (omega arith) c.in_ok-ledger.ledger.settings c.in_ok-ledger.ensures.settings c.get-base.result
    (c.get-base.ensures.value ∙ c.base.ensures.value) c.slot-slot.result c.slot-slot.ensures c.deref.result.now c.deref.ensures.value
    c.passed-fit.result c.passed-fit.ensures _ c.in_ok-take_event.ensures _ c.count_after-count.ensures

pub overflow_mul-base-2 : goal.overflow_mul-base-2
overflow_mul-base-2 c =
    let few =
    room_few _ _ c.in_ok-ledger.ledger c.in_ok-ledger.ensures _ _ _ _ _ c.loop-numbered.invariant c.get-base.result
    (c.get-base.ensures.value ∙ c.base.ensures.value) in
    omega (arith, few)

pub passed-requires-clause-order : goal.passed-requires-clause-order
passed-requires-clause-order c =
    end_order _ _ c.in_ok-ledger.ledger c.in_ok-ledger.ensures _ _ _ _ _ c.loop-numbered.invariant

pub passed-requires-clause-short : goal.passed-requires-clause-short
passed-requires-clause-short c =
    end_short _ _ c.in_ok-ledger.ledger c.in_ok-ledger.ensures _ _ _ _ _ c.loop-numbered.invariant

pub passed-requires-clause-load : goal.passed-requires-clause-load
passed-requires-clause-load c =
    lent_few _ _ c.in_ok-ledger.ledger c.in_ok-ledger.ensures _ _ _ _ _ c.loop-numbered.invariant c.deref-2.result.now c.deref-2.ensures.value

pub passed-requires-clause-small : goal.passed-requires-clause-small
passed-requires-clause-small c =
    few_overload _ _ c.in_ok-ledger.ledger c.in_ok-ledger.ensures _ _ _ _ _ c.loop-numbered.invariant

pub returns-clause-first : goal.returns-clause-first
returns-clause-first c =
    (ended _ _ c.in_ok-ledger.ledger c.in_ok-ledger.ensures _ _ _ _ _ c.loop-numbered.invariant _ c.deref-numbered-items.ensures.value
    (omega arith) c.get-base.result (c.get-base.ensures.value ∙ c.base.ensures.value) c.deref-2.result.now c.deref-2.ensures.value
    c.passed.result c.passed.ensures).first

pub returns-clause-overload : goal.returns-clause-overload
returns-clause-overload c =
    (ended _ _ c.in_ok-ledger.ledger c.in_ok-ledger.ensures _ _ _ _ _ c.loop-numbered.invariant _ c.deref-numbered-items.ensures.value
    (omega arith) c.get-base.result (c.get-base.ensures.value ∙ c.base.ensures.value) c.deref-2.result.now c.deref-2.ensures.value
    c.passed.result c.passed.ensures).overload
