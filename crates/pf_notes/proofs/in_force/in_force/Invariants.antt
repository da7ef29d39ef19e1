use Rattle.std.proofs.Common.{◌≡◌, ◌==◌, not, take, filter}
use Rattle.std.specs.List.{list_any}
use Rattle.pf_notes.proofs.in_force.in_force.Given as goal

abbrev pub invariant-loop-numbered : goal.invariant-loop-numbered
invariant-loop-numbered l = l.standing.items ≡ filter (λ x. not (list_any (λ n. n == x.id) l.denied)) (take l.numbered-index l.events)
