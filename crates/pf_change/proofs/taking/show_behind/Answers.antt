use Rattle.std.proofs.Common.{◌∙◌, arith}
use Rattle.pf_change.proofs.Courses.{all_seen, next_line, none_waits}
use Rattle.pf_change.proofs.taking.show_behind.Goals as goal

pub loop-line-preserved : goal.loop-line-preserved
loop-line-preserved c =
    next_line c.loop-line.desk c.take.new.self c.args.lines.now c.loop-line.line-index _ (omega arith) c.in_ok-take.ensures
    ∙ c.loop-line.invariant

pub returns-clause-desk : goal.returns-clause-desk
returns-clause-desk c =
    none_waits c.loop-line.desk c.answer_waiting.new.self c.args.lines.now c.loop-line.line-index _ (omega arith) c.loop-line.invariant
    c.in_ok-answer_waiting.ensures.answered c.snapshot.result c.in_ok-answer_waiting.ensures.none

pub returns-clause-shown : goal.returns-clause-shown
returns-clause-shown c =
    all_seen c.loop-line.desk c.answer_waiting.new.self c.args.lines.now c.loop-line.line-index _ (omega arith) c.loop-line.invariant
    c.in_ok-answer_waiting.ensures.answered c.snapshot.result c.desk.result.now c.desk.ensures c.snapshot.ensures.stands c.snapshot.ensures.shown
