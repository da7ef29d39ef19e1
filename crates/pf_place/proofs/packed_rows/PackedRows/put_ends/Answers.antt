use Rattle.std.proofs.Common.{ap, length, arith}
use Rattle.pf_place.proofs.Packed.{count_cut, count_times}
use Rattle.pf_place.proofs.packed_rows.PackedRows.put_ends.Goals as goal

pub push_ends-requires-clause-small : goal.push_ends-requires-clause-small
push_ends-requires-clause-small c =
    let inside = c.self.inside in
    omega (arith, count_times _ inside.width inside.count inside.places.items c.self.invariant, inside.places.ok.0, inside.places.small)

pub push_ends-requires-clause-room : goal.push_ends-requires-clause-room
push_ends-requires-clause-room c =
    let inside = c.self.inside in
    omega (arith, c.requires, ap length c.self.view_is, count_cut _ inside.width inside.count inside.places.items c.self.invariant)
