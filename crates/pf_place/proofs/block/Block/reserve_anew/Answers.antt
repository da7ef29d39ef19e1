use Rattle.std.proofs.Common.{length, subst, sym, ap, arith}
use Rattle.pf_place.specs.Blocks.{AreCutAt, rows_between}
use Rattle.pf_place.proofs.Blocks.{ends_from_cut}
use Rattle.pf_place.proofs.block.Block.reserve_anew.Goals as goal

pub returns-clause-fits : goal.returns-clause-fits
returns-clause-fits c =
    let inside = c.self.inside in
    let places = c.reserve.new.self in
    let cut = subst (λ items. AreCutAt (rows_between 0 inside.ends.items items) inside.ends.items items) (sym c.reserve.ensures.items) c.self.invariant in
    record {
      for_places = omega (arith, ap length cut.places_are, places.ok.0, places.ok.1);
      for_rows = omega (arith, ends_from_cut _ _ _ cut, inside.ends.ok.0, inside.ends.ok.1);
    }
