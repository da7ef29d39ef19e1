use Rattle.pf_vocabulary.proofs.TaskLinesLemmas.Fields.{IsReadTo}
use Rattle.pf_vocabulary.proofs.task_lines.line.field_of.Given as goal

abbrev pub invariant-loop-end : goal.invariant-loop-end
invariant-loop-end l = IsReadTo l.line l.column l.left l.start l.end
