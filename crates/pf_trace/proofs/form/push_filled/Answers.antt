use Rattle.std.proofs.Common.{◌∙◌, ◌-◌, ◌++◌, drop, take, length, refl, sym, arith}
use Rattle.pf_lemmas.proofs.Options.{appended}
use Rattle.pf_trace.proofs.Filling.{byte_passed, form_passed, hole_passed}
use Rattle.pf_trace.proofs.form.push_filled.Goals as goal
use Rattle.pf_trace.proofs.form.push_filled.Goals.{then-is_hole+in_ok-extend_from_slice+in_ok-push_hole, else-is_hole}

pub loop-at-preserved : goal.loop-at-preserved
loop-at-preserved c =
    let title = c.args.title.now in
    let form = c.args.form.now in
    let numbers = c.args.numbers.now in
    let at = c.loop-at.at in
    let start = c.loop-at.start in
    let used = c.loop-at.used in
    elim c.if-is_hole.branch [
      | then-is_hole+in_ok-extend_from_slice+in_ok-push_hole w ↦
          rw (w.text-is, w.start-is, w.used-is) (record {
            whole = hole_passed title form numbers start at used 0 _ c.loop-at.text.items _ _ _ (omega arith) (sym c.is_hole.ensures ∙ w.if-is_hole.true)
                w.in_ok-extend_from_slice.ensures.items w.number_at.ensures w.in_ok-push_hole.ensures c.loop-at.invariant.whole;
            order = omega arith;
            few = omega (arith, c.loop-at.invariant.few);
          })
      | else-is_hole w ↦
          rw (w.text-is, w.start-is, w.used-is) (record {
            whole = byte_passed title form numbers start at used 0 c.loop-at.text.items _ c.loop-at.invariant.order (omega arith)
                (sym c.is_hole.ensures ∙ w.if-is_hole.false) c.loop-at.invariant.whole;
            order = omega (arith, c.loop-at.invariant.order);
            few = omega (arith, c.loop-at.invariant.few);
          })
    ]

pub returns : goal.returns
returns c =
    let old = c.loop-at.text.items in
    let behind = take (length c.args.form.now - c.loop-at.start) (drop c.loop-at.start c.args.form.now) in
    appended c.extend_from_slice-2.result _ old behind _ c.extend_from_slice-2.ensures.items
    (form_passed c.args.title.now c.args.form.now c.args.numbers.now c.loop-at.start c.loop-at.at c.loop-at.used old (old ++ behind) _ (omega arith) refl
    c.loop-at.invariant.whole)
