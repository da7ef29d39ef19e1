use Rattle.std.proofs.Common.{length, ap, sym, ◌∙◌}
use Rattle.pf_place.proofs.Packed.{count_cut}
use Rattle.pf_place.proofs.packed_rows.PackedRows.len.Goals as goal

pub returns : goal.returns
returns c =
    let inside = c.self.inside in
    sym (count_cut _ inside.width inside.count inside.places.items c.self.invariant) ∙ ap length c.self.view_is
