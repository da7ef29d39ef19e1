use Rattle.std.proofs.Common.{subst, ◌∙◌}
use Rattle.pf_place.specs.Blocks.{Held, AreCutAt}
use Rattle.pf_place.proofs.Blocks.{ends_from_cut}
use Rattle.pf_place.proofs.block.Block.len.Goals as goal

pub returns : goal.returns
returns c =
    let inside = c.self.inside in
    let cut = subst (λ (v : Held). AreCutAt v.rows inside.ends.items inside.places.items) c.self.view_is c.self.invariant in
    c.len.ensures ∙ inside.ends.ok.0 ∙ ends_from_cut c.args.self.now.rows inside.ends.items inside.places.items cut
