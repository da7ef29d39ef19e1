use Rattle.std.proofs.Common.{arith}
use Rattle.std.proofs.lemmas.Grind.{common_steps}
use Rattle.pf_place.proofs.Seated.{row_seats_picks, row_seats_once}
use Rattle.pf_place.proofs.row.place.Goals as goal

pub returns-clause-row : goal.returns-clause-row
returns-clause-row c = grind (arith, common_steps)

pub returns-clause-seated : goal.returns-clause-seated
returns-clause-seated c =
    rw (returns-clause-row c)
    (row_seats_picks c.args.m c.args.count c.args.before.now c.args.picks.now c.requires.in_use c.requires.places c.requires.few c.requires.picks c.requires.before)

pub returns-clause-once : goal.returns-clause-once
returns-clause-once c =
    rw (returns-clause-row c)
    (row_seats_once c.args.m c.args.count c.args.before.now c.args.picks.now c.requires.in_use c.requires.places c.requires.few c.requires.picks c.requires.before)
