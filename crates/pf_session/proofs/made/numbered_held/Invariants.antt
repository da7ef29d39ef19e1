use Rattle.std.proofs.Common.{◌≡◌, ◌==◌, find}
use Rattle.pf_session.proofs.made.numbered_held.Given as goal

abbrev pub invariant-loop-numbered : goal.invariant-loop-numbered
invariant-loop-numbered l = find (λ x. x.id == l.id) l.numbered-iterator ≡ find (λ x. x.id == l.id) l.scenario.events
