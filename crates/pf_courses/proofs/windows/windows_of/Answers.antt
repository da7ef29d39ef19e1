use Rattle.std.proofs.Common.{arith, ap, sym, ◌∙◌}
use Rattle.pf_courses.proofs.Built.{windows_drawn, windows_not_drawn}
use Rattle.pf_courses.proofs.windows.windows_of.Goals as goal
use Rattle.pf_courses.proofs.windows.windows_of.Goals.{then-is_drawn+in_ok-push, else-is_drawn}

pub loop-i-preserved : goal.loop-i-preserved
loop-i-preserved c = elim c.if-is_drawn.branch [
  | then-is_drawn+in_ok-push w ↦
      windows_drawn c.args.task c.args.ran.now c.args.on.now c.args.delays.now c.args.end _ _ c.loop-i.i _ (omega arith) c.window_of-window.ensures
      (sym c.is_drawn.ensures ∙ w.if-is_drawn.true) (ap (λ v. v.items) w.windows-is ∙ w.in_ok-push.ensures.items) c.loop-i.invariant
  | else-is_drawn w ↦
      windows_not_drawn c.args.task c.args.ran.now c.args.on.now c.args.delays.now c.args.end _ _ c.loop-i.i _ (omega arith) c.window_of-window.ensures
      (sym c.is_drawn.ensures ∙ w.if-is_drawn.false) (ap (λ v. v.items) w.windows-is) c.loop-i.invariant
]
