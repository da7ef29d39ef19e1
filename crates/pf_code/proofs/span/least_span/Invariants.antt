use Rattle.std.proofs.Common.{take}
use Rattle.pf_code.proofs.Spans.{IsLeastSpan}
use Rattle.pf_code.proofs.span.least_span.Given as goal

-- of the tasks that were looked at
abbrev pub invariant-loop-task : goal.invariant-loop-task
invariant-loop-task l = IsLeastSpan (take l.task-index l.tasks) l.span
