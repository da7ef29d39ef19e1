use Rattle.std.proofs.Common.{◌∙◌, ◌*◌, None, arith, ap, sym, subst, refl, min, max, List, [], length}
use Rattle.pf_run.specs.Computed.{run_of}
use Rattle.pf_tally.specs.Levels.{levels_of}
use Rattle.pf_tally.specs.declared.asking.Asking.{Asking}
use Rattle.pf_tally.specs.declared.fit.Fit.{Fit}
use Rattle.pf_tally.proofs.FitSteps.{IsFitAt, units_of}
use Rattle.pf_tally.proofs.LedgerFits.{fit_start, lent_few, room_few, next_order, next_limits, next_same, kept, last_order, last_same}
use Rattle.pf_tally.proofs.LevelSteps.{none_yet, levels_passed}
use Rattle.pf_tally.proofs.levels.levels.Goals as goal

pub loop-numbered-init : goal.loop-numbered-init
loop-numbered-init c =
    let s = c.args.scenario.now in
    let r = run_of s (length c.args.rows.now) in
    let known = c.in_ok-ledger.ensures in
    let none : Fit = record { first = None; overload = 0 } in
    let start : IsFitAt s r 0 0 c.from-count.result [] none =
    fit_start _ _ c.in_ok-ledger.ledger known c.from-count.result
    (c.from-count.ensures ∙ c.processors.ensures.value ∙ ap (λ z. z.processors) known.settings) in
    record {
      at = (none, subst (λ (asking : List Asking). IsFitAt s r 0 0 c.from-count.result asking none) (sym c.new-asking.ensures.items) start);
      levels = none_yet s r c.args.from c.args.to _ c.new-levels.ensures.items;
    }

pub overflow_mul-base : goal.overflow_mul-base
overflow_mul-base c =
    let few =
    room_few _ _ c.in_ok-ledger.ledger c.in_ok-ledger.ensures _ _ _ _ _ c.loop-numbered.invariant.at.1 c.get-base.result
    (c.get-base.ensures.value ∙ c.base.ensures.value) in
    omega (arith, few)

pub push_level-requires : goal.push_level-requires
push_level-requires c =
    lent_few _ _ c.in_ok-ledger.ledger c.in_ok-ledger.ensures _ _ _ _ _ c.loop-numbered.invariant.at.1 c.deref.result.now c.deref.ensures.value

pub take_event-requires : goal.take_event-requires
take_event-requires c =
    next_limits _ _ c.in_ok-ledger.ledger c.in_ok-ledger.ensures _ _ _ _ _ c.loop-numbered.invariant.at.1 _ c.deref-numbered-items.ensures.value _
    (omega arith) c.in_ok-ledger.ledger.settings c.in_ok-ledger.ensures.settings

pub loop-numbered-preserved : goal.loop-numbered-preserved
loop-numbered-preserved c =
    let ledger = c.in_ok-ledger.ledger in
    let known = c.in_ok-ledger.ensures in
    let at = c.loop-numbered.invariant.at.1 in
    let base_is = c.get-base.ensures.value ∙ c.base.ensures.value in
    let items = c.deref-numbered-items.ensures.value in
    let asked = c.deref.ensures.value in
    record {
      at = (
        _,
        kept _ _ ledger known _ _ _ _ _ at _ items _ (omega arith) ledger.settings known.settings c.get-base.result base_is
            c.slot-slot.result c.slot-slot.ensures c.deref.result.now asked _ refl _ c.in_ok-take_event.ensures _ c.count_after-count.ensures,
      );
      levels =
          levels_passed _ _ c.args.from _ _ c.args.to _ _ _ _ _ _
          (next_order _ _ ledger known _ _ _ _ _ at _ items _ (omega arith) c.slot-slot.result c.slot-slot.ensures)
          c.requires.order
          (next_same _ _ ledger known _ _ _ _ _ at _ items _ (omega arith) c.get-base.result base_is c.slot-slot.result c.slot-slot.ensures
          c.deref.result.now asked)
          c.loop-numbered.invariant.levels c.max.ensures c.min.ensures c.in_ok-push_level.ensures;
    }

pub overflow_mul-base-2 : goal.overflow_mul-base-2
overflow_mul-base-2 c =
    let few =
    room_few _ _ c.in_ok-ledger.ledger c.in_ok-ledger.ensures _ _ _ _ _ c.loop-numbered.invariant.at.1 c.get-base.result
    (c.get-base.ensures.value ∙ c.base.ensures.value) in
    omega (arith, few)

pub push_level-requires-2 : goal.push_level-requires-2
push_level-requires-2 c =
    lent_few _ _ c.in_ok-ledger.ledger c.in_ok-ledger.ensures _ _ _ _ _ c.loop-numbered.invariant.at.1 c.deref-2.result.now c.deref-2.ensures.value

pub returns : goal.returns
returns c =
    let s = c.args.scenario.now in
    let n = length c.args.rows.now in
    let ledger = c.in_ok-ledger.ledger in
    let known = c.in_ok-ledger.ensures in
    let at = c.loop-numbered.invariant.at.1 in
    let base_is = c.get-base.ensures.value ∙ c.base.ensures.value in
    let all =
    levels_passed s (run_of s n) c.args.from _ n c.args.to _ _ _ _ _ _ (last_order _ _ ledger known _ _ _ _ _ at) c.requires.order
    (last_same _ _ ledger known _ _ _ _ _ at _ c.deref-numbered-items.ensures.value (omega arith) c.get-base.result base_is
    c.deref-2.result.now c.deref-2.ensures.value)
    c.loop-numbered.invariant.levels c.max-2.ensures (omega (arith, c.requires.within)) c.in_ok-push_level-2.ensures in
    all.are ∙ ap (levels_of s (run_of s n) c.args.from) (omega (arith, c.requires.order, c.requires.within))
