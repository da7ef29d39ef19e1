use Rattle.pf_trace.proofs.Listing.{IsNotedBelow}
use Rattle.pf_trace.proofs.trace.listed_tasks.Given as goal

abbrev pub invariant-loop-task : goal.invariant-loop-task
invariant-loop-task l = IsNotedBelow l.titles l.snapshot l.task l.tasks
