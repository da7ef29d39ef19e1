use Rattle.std.proofs.Common.{◌≡◌, ◌==◌, filter, map, take}
use Rattle.std.specs.List.{list_any}
use Rattle.pf_scenario.specs.Event.{slot_of}
use Rattle.pf_courses.proofs.listings.denied_slots.Given as goal

abbrev pub invariant-loop-numbered : goal.invariant-loop-numbered
invariant-loop-numbered l =
    l.slots.items ≡ map (λ x. slot_of x.event) (filter (λ x. list_any (λ n. n == x.id) l.denied) (take l.numbered-index l.own))
