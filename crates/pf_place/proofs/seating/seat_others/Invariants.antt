use Rattle.std.proofs.Common.{◌≡◌, drop}
use Rattle.std.specs.List.{position_or_len}
use Rattle.std.specs.Option.{is_none}
use Rattle.pf_place.specs.Lent.{lent_row}
use Rattle.pf_place.specs.Occupancy.{others}
use Rattle.pf_place.specs.Seating.{seats_filled_with}
use Rattle.pf_place.proofs.seating.seat_others.Given as goal

abbrev pub invariant-loop-pick : goal.invariant-loop-pick
invariant-loop-pick l =
    (seats_filled_with l.initial.places (others (lent_row l.earlier) l.picks) ≡ seats_filled_with l.places (others (lent_row l.earlier) (drop l.pick-index l.picks)))
    × (l.free ≡ position_or_len is_none l.places)
