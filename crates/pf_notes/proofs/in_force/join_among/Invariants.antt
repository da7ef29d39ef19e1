use Rattle.std.proofs.Common.{◌≡◌, find}
use Rattle.pf_scenario.specs.Event.{is_join_of}
use Rattle.pf_notes.proofs.in_force.join_among.Given as goal

abbrev pub invariant-loop-numbered : goal.invariant-loop-numbered
invariant-loop-numbered l = find (λ x. is_join_of l.task x.event) l.numbered-iterator ≡ find (λ x. is_join_of l.task x.event) l.scenario.events
