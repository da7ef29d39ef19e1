use Rattle.std.proofs.Common.{◌≤◌, length, subst, sym, arith}
use Rattle.pf_place.specs.Blocks.{Held, AreCutAt}
use Rattle.pf_place.proofs.Blocks.{ends_from_cut}
use Rattle.pf_place.proofs.block.Block.assign.Goals as goal

pub unreachable-requires-in-Err-extend_from_slice : goal.unreachable-requires-in-Err-extend_from_slice
unreachable-requires-in-Err-extend_from_slice c =
    let other = c.other.inside in
    let cut = subst (λ (v : Held). AreCutAt v.rows other.ends.items other.places.items) c.other.view_is c.other.invariant in
    let room = subst (λ (v : Held). length c.args.other.now.rows ≤ v.rows_room) (sym c.self.view_is) c.requires.for_rows in
    omega (
      arith,
      room,
      ends_from_cut c.args.other.now.rows other.ends.items other.places.items cut,
      other.ends.ok.0,
      c.deref-2.ensures.len,
      c.clear-2.ensures.len,
      c.clear-2.ensures.capacity,
      c.in-Err-extend_from_slice.ensures.full,
    )
