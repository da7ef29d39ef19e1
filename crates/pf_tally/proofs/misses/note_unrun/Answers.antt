use Rattle.std.proofs.Common.{None, ◌∙◌, ap, arith, refl}
use Rattle.pf_tally.proofs.Missing.{late_yes, late_over, unrun_late}
use Rattle.pf_tally.specs.declared.miss.Miss.{Miss}
use Rattle.pf_tally.proofs.misses.note_unrun.Goals as goal

pub returns-then-due-last : goal.returns-then-due-last
returns-then-due-last c = λ ran start long before.
    late_over c.args.task ran c.args.delays.now c.args.last c.loop-i.misses.items start c.loop-i.i c.args.now c.requires.can.share (omega arith) (omega arith)
    (omega (arith, c.due_of-due.ensures)) (c.loop-i.invariant ran start long before)

pub loop-i-preserved : goal.loop-i-preserved
loop-i-preserved c = λ ran start long before.
    let both = unrun_late c.args.task ran c.args.delays.now c.args.last c.due_of-due.result c.loop-i.i c.due_of-due.ensures (omega arith) (omega arith) in
    let number = c.number_of-number.ensures ∙ ap (λ j. j.task) c.task.view_is in
    let this = ap (λ n. let m : Miss = record { task = n; sub = c.loop-i.i; deadline = c.due_of-due.result; ran = None } in m) number ∙ both.1 in
    late_yes c.args.task ran c.args.delays.now c.args.last _ _ start c.loop-i.i _ _ (omega arith) refl both.0 this c.in_ok-push.ensures.items (c.loop-i.invariant ran start long before)
