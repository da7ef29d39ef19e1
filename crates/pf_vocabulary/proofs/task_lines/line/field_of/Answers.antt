use Rattle.std.proofs.Common.{◌+◌, ◌-◌, sym, subst}
use Rattle.pf_vocabulary.proofs.TaskLinesLemmas.Fields.{IsReadTo, byte_read, field_met, field_passed, last_met, last_passed}
use Rattle.pf_vocabulary.proofs.task_lines.line.field_of.Goals as goal
use Rattle.pf_vocabulary.proofs.task_lines.line.field_of.Goals.{then-line-end-eq44+else-left-eq0, else-line-end-eq44}

pub returns-then-left-eq0 : goal.returns-then-left-eq0
returns-then-left-eq0 c =
    field_met c.args.line.now c.args.column c.loop-end.left c.loop-end.start c.loop-end.end c.loop-end.invariant c.loop-end-test.true
    c.if-line-end-eq44.true c.if-left-eq0.true

pub loop-end-preserved : goal.loop-end-preserved
loop-end-preserved c =
    let line = c.args.line.now in
    let next = c.loop-end.end + 1 in
    elim c.if-line-end-eq44.branch [
      | then-line-end-eq44+else-left-eq0 w ↦
          subst (λ s. IsReadTo line c.args.column c.if-line-end-eq44.left s next) (sym w.start-is)
          (subst (λ n. IsReadTo line c.args.column n next next) (sym w.left-is)
          (field_passed line c.args.column c.loop-end.left c.loop-end.start c.loop-end.end c.loop-end.invariant c.loop-end-test.true
          w.if-line-end-eq44.true w.if-left-eq0.false))
      | else-line-end-eq44 w ↦
          subst (λ s. IsReadTo line c.args.column c.if-line-end-eq44.left s next) (sym w.start-is)
          (subst (λ n. IsReadTo line c.args.column n c.loop-end.start next) (sym w.left-is)
          (byte_read line c.args.column c.loop-end.left c.loop-end.start c.loop-end.end c.loop-end.invariant c.loop-end-test.true w.if-line-end-eq44.false))
    ]

pub returns-then-left-eq0-2 : goal.returns-then-left-eq0-2
returns-then-left-eq0-2 c =
    last_met c.args.line.now c.args.column c.loop-end.left c.loop-end.start c.loop-end.end c.loop-end.invariant c.loop-end-test.false c.if-left-eq0-2.true

pub returns-else-left-eq0-2 : goal.returns-else-left-eq0-2
returns-else-left-eq0-2 c =
    last_passed c.args.line.now c.args.column c.loop-end.left c.loop-end.start c.loop-end.end c.loop-end.invariant c.loop-end-test.false c.if-left-eq0-2.false
