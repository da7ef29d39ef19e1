use Rattle.std.proofs.Common.{length, subst, ap, arith}
use Rattle.pf_place.specs.Blocks.{Held, AreCutAt}
use Rattle.pf_place.proofs.Blocks.{ends_from_cut}
use Rattle.pf_place.proofs.block.Block.empty_like.Goals as goal

pub returns-clause-fits : goal.returns-clause-fits
returns-clause-fits c =
    let inside = c.self.inside in
    let cut = subst (λ (v : Held). AreCutAt v.rows inside.ends.items inside.places.items) c.self.view_is c.self.invariant in
    record {
      for_places = omega (arith, ap length cut.places_are, inside.places.ok.0, inside.places.ok.1, c.capacity.ensures, c.in_ok-with_capacity.ensures.exact);
      for_rows = omega (arith, ends_from_cut _ _ _ cut, inside.ends.ok.0, inside.ends.ok.1, c.capacity-2.ensures, c.in_ok-with_capacity-2.ensures.exact);
    }
