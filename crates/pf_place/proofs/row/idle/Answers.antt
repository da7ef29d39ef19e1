use Rattle.std.proofs.Common.{◌≡◌, rules}
use Rattle.pf_place.specs.Occupancy.{idle_row}
use Rattle.pf_place.proofs.Seated.{idle_seat_nobody}
use Rattle.pf_place.proofs.row.idle.Goals as goal

pub returns-clause-empty : goal.returns-clause-empty
returns-clause-empty c =
    let idle : c.in_ok-places.places.items ≡ idle_row c.args.m = search rules in
    rw idle (idle_seat_nobody c.args.m)
