use Rattle.std.proofs.Common.{◌∙◌, ap}
use Rattle.pf_vocabulary.proofs.TaskLinesLemmas.Shown.{byte_ends, byte_goes_on}
use Rattle.pf_vocabulary.proofs.task_lines.listed_lines.take_piece.Goals as goal
use Rattle.pf_vocabulary.proofs.task_lines.listed_lines.take_piece.Goals.{then-byte-eq10+in_ok-take_line, else-byte-eq10}

pub loop-byte-preserved : goal.loop-byte-preserved
loop-byte-preserved c rest =
    let so_far = c.loop-byte.invariant rest in
    elim c.if-byte-eq10.branch [
      | then-byte-eq10+in_ok-take_line w ↦
          byte_ends c.args.tasks.now c.args.column c.loop-byte.line.items c.loop-byte.shown.items c.args.piece.now rest _ c.loop-byte.byte-index c.loop-byte-test.true so_far
          _ _ _ w.if-byte-eq10.true c.in_ok-push.ensures.items (ap (λ v. v.items) w.line-is ∙ w.in_ok-take_line.ensures.line)
          (ap (λ v. v.items) w.shown-is ∙ w.in_ok-take_line.ensures.text)
      | else-byte-eq10 w ↦
          byte_goes_on c.args.tasks.now c.args.column c.loop-byte.line.items c.loop-byte.shown.items c.args.piece.now rest _ c.loop-byte.byte-index c.loop-byte-test.true so_far
          _ _ w.if-byte-eq10.false (ap (λ v. v.items) w.line-is ∙ c.in_ok-push.ensures.items) (ap (λ v. v.items) w.shown-is)
    ]
