use Rattle.std.proofs.Common.{◌≡◌, ◌↔◌, true, All}
use Rattle.pf_desk.specs.Room.{leaves_needed}
use Rattle.pf_desk.proofs.never_misses.has_room.Given as goal

abbrev pub invariant-loop-numbered : goal.invariant-loop-numbered
invariant-loop-numbered l =
    All (λ x. leaves_needed l.needed x.event ≡ true) l.numbered-iterator
    ↔ All (λ x. leaves_needed l.needed x.event ≡ true) l.scenario.events
