use Rattle.std.proofs.Common.{◌≡◌, drop}
use Rattle.std.specs.List.{position_from}
use Rattle.pf_place.specs.Lent.{lent_row}
use Rattle.pf_why.specs.Seat.{sits}
use Rattle.pf_why.proofs.seat.processor_of.Given as goal

-- the task sits on none of the processors so far
abbrev pub invariant-loop-processor : goal.invariant-loop-processor
invariant-loop-processor l =
    position_from (sits l.task) 0 (lent_row l.row) ≡ position_from (sits l.task) l.processor (drop l.processor (lent_row l.row))
