use Rattle.std.proofs.Common.{◌≡◌, ◌++◌}
use Rattle.pf_courses.proofs.listings.held_events.Given as goal

abbrev pub invariant-loop-numbered : goal.invariant-loop-numbered
invariant-loop-numbered l = l.held.items ++ l.numbered-iterator ≡ l.scenario.events
