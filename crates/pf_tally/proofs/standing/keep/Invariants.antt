use Rattle.std.proofs.Common.{◌≡◌, ◌==◌, ◌++◌, not, filter, take}
use Rattle.std.specs.List.{list_any}
use Rattle.pf_tally.proofs.standing.keep.Given as goal

abbrev pub invariant-loop-event : goal.invariant-loop-event
invariant-loop-event l =
    l.standing.items ≡ l.initial.standing.items ++ filter (λ x. not (list_any (λ n. n == x.id) l.denied)) (take l.event-index l.events)
