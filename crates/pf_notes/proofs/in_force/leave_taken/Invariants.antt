use Rattle.std.proofs.Common.{◌≡◌, ◌==◌, ◌&&◌, not, drop, find}
use Rattle.std.specs.List.{list_any}
use Rattle.pf_scenario.specs.Event.{is_leave_of}
use Rattle.pf_notes.proofs.in_force.leave_taken.Given as goal

abbrev pub invariant-loop-numbered : goal.invariant-loop-numbered
invariant-loop-numbered l =
    find (λ x. not (list_any (λ n. n == x.id) l.denied) && is_leave_of l.task x.event) (drop l.numbered-index l.events)
    ≡ find (λ x. not (list_any (λ n. n == x.id) l.denied) && is_leave_of l.task x.event) l.events
