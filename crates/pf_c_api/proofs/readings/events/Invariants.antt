use Rattle.std.proofs.Common.{◌≡◌, ◌++◌}
use Rattle.pf_c_api.proofs.readings.events.Given as goal

abbrev pub invariant-loop-numbered : goal.invariant-loop-numbered
invariant-loop-numbered l = l.held.items ++ l.numbered-iterator ≡ l.desk.state.plan.events
