use Rattle.std.proofs.Common.{arith}
use Rattle.pf_place.proofs.Filling.{lowest_filled, next_behind}
use Rattle.pf_place.proofs.seating.seat_lowest.Goals as goal

pub free_from-requires-clause-taken : goal.free_from-requires-clause-taken
free_from-requires-clause-taken c =
    rw (c.of.ensures, c.requires.lowest) (next_behind c.args.places.now c.args.pick (omega (arith, c.requires.lowest, c.requires.some)))

pub returns-clause-seated : goal.returns-clause-seated
returns-clause-seated c =
    rw (c.of.ensures, c.requires.lowest) (lowest_filled c.args.places.now c.args.pick (omega (arith, c.requires.lowest, c.requires.some)))
