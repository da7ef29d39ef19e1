use Rattle.std.proofs.Common.{◌+◌, get_or, inl, inr, refl, ap, ◌∙◌, arith, rules, w64}
use Rattle.std.proofs.lemmas.Int.{to_z-of_z}
use mir.Val.{SFits}
use Rattle.pf_tally.specs.Ranges.{lag_with}
use Rattle.pf_tally.proofs.Ranges.{alone_kept, with_kept, counted_before, counted_with, seen_none, seen_in, seen_out, seen_all}
use Rattle.pf_tally.proofs.range.lag_range.Goals as goal
use Rattle.pf_tally.proofs.range.lag_range.Goals.{then-seen-slot+then-slot-last, else-seen-slot, else-seen-slot-via-then-seen-slot+else-slot-last, else-seen-slot-via-else-seen-slot}

pub loop-slot-init : goal.loop-slot-init
loop-slot-init c =
    let fits : SFits w64 c.lag_after.result = search rules in (
      seen_none c.args.task c.args.delays.now c.requires.share c.requires.chain c.args.ran.now c.args.last c.task.inside.slot c.of-range.result c.requires.joined (ap (λ j. j.slot) c.task.view_is)
          (alone_kept c.of-range.result _ c.lag_after.result _ c.of-range.ensures (to_z-of_z w64 c.lag_after.result fits)
          (c.lag_after.ensures ∙ ap (λ n. lag_with c.args.task c.args.delays.now n c.task.inside.slot) c.slots_below.ensures.value)),
      refl,
    )

pub loop-slot-preserved : goal.loop-slot-preserved
loop-slot-preserved c = (
  elim c.if-seen-slot.branch [
    | then-seen-slot+then-slot-last w ↦
        let fits : SFits w64 w.lag_after-before.result = search rules in
        let fits' : SFits w64 w.lag_after-then-slot-last.result = search rules in
        let k = c.loop-slot.slot-index in
        let q = get_or c.args.ran.now k 0 in
        let here = counted_before c.args.ran.now k c.requires.apart c.loop-slot-test.true in
        let next = counted_with c.args.ran.now k c.requires.apart c.loop-slot-test.true in
        rw w.range-is (seen_in c.args.task c.args.delays.now c.requires.share c.requires.chain c.args.ran.now c.args.last k c.loop-slot.seen c.if-seen-slot.seen
        c.loop-slot.range w.with.result w.with-range.result c.requires.rising c.loop-slot.invariant.0 c.loop-slot-test.true w.if-seen-slot.true w.if-slot-last.true w.seen-is
        (with_kept w.with.result c.loop-slot.range _ w.lag_after-before.result _ w.with.ensures (to_z-of_z w64 w.lag_after-before.result fits)
        (w.lag_after-before.ensures ∙ ap (λ n. lag_with c.args.task c.args.delays.now n q) (c.loop-slot.invariant.1 ∙ here)))
        (with_kept w.with-range.result w.with.result _ w.lag_after-then-slot-last.result _ w.with-range.ensures (to_z-of_z w64 w.lag_after-then-slot-last.result fits')
        (w.lag_after-then-slot-last.ensures ∙ ap (λ n. lag_with c.args.task c.args.delays.now n (q + 1)) (ap (λ n. n + 1) c.loop-slot.invariant.1 ∙ next))))
    | else-seen-slot w ↦
        rw (w.range-is, w.seen-is) (seen_out c.args.task c.args.delays.now c.requires.share c.requires.chain c.args.ran.now c.args.last c.loop-slot.slot-index c.loop-slot.seen c.loop-slot.range c.loop-slot.invariant.0
        c.loop-slot-test.true (elim w.else-seen-slot.branch [
          | else-seen-slot-via-then-seen-slot+else-slot-last v ↦ inr v.if-slot-last.false
          | else-seen-slot-via-else-seen-slot v ↦ inl v.if-seen-slot.false
        ]))
  ],
  omega (arith, c.loop-slot.invariant.1),
)

pub returns : goal.returns
returns c =
    let fits : SFits w64 c.lag_after-2.result = search rules in
    seen_all c.args.task c.args.delays.now c.requires.share c.requires.chain c.args.ran.now c.args.last c.loop-slot.slot-index c.loop-slot.seen c.loop-slot.range c.with-2.result c.loop-slot.invariant.0
    c.loop-slot-test.false (with_kept c.with-2.result c.loop-slot.range _ c.lag_after-2.result _ c.with-2.ensures (to_z-of_z w64 c.lag_after-2.result fits)
    (c.lag_after-2.ensures ∙ ap (λ n. lag_with c.args.task c.args.delays.now n c.args.last) c.slots_below-2.ensures.value))
