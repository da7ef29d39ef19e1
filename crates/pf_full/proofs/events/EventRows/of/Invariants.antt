use Rattle.std.proofs.Common.{◌≡◌, ◌++◌}
use Rattle.pf_full.proofs.events.EventRows.of.Given as goal

abbrev pub invariant-loop-numbered : goal.invariant-loop-numbered
invariant-loop-numbered l = l.events.items ++ l.numbered-iterator ≡ l.snapshot.state.plan.events
