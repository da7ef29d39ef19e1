use Rattle.std.proofs.Common.{◌≡◌, ◌+◌, ◌-◌}
use Rattle.pf_notes.specs.Point.{first_slot}
use Rattle.pf_notes.specs.Walk.{bound_with, last_in, lets_go_by}
use Rattle.pf_notes.proofs.walk.leaves_in.Given as goal

-- none of the slots up to t lets the task go
abbrev pub invariant-loop-t : goal.invariant-loop-t
invariant-loop-t l =
    (l.bound ≡ bound_with l.joined l.standing (last_in l.rows l.joined.task l.t))
    × (first_slot (lets_go_by l.rows l.joined l.standing) (l.t + 1) (l.to - l.t)
    ≡ first_slot (lets_go_by l.rows l.joined l.standing) (l.from + 1) (l.to - l.from))
