use Rattle.std.proofs.Common.{◌-◌, get_or, ◌∷◌, subst, ap, ◌∙◌}
use Rattle.pf_place.specs.Blocks.{Held, AreCutAt}
use Rattle.pf_place.proofs.Blocks.{cut_popped, cut_from_cut, rows_from_cut}
use Rattle.pf_place.proofs.block.Block.pop.Goals as goal

pub invariant_of-self : goal.invariant_of-self
invariant_of-self c =
    let inside = c.self.inside in
    let cut = subst (λ (v : Held). AreCutAt v.rows inside.ends.items inside.places.items) c.self.view_is c.self.invariant in
    let popped = cut_popped c.args.self.now.rows inside.ends.items inside.places.items cut c.requires (c.len-last.result - 1) c.start_of-start.result
    (ap (λ n. n - 1) (c.len-last.ensures ∙ inside.ends.ok.0)) (c.start_of-start.ensures ∙ ap (λ ends. get_or (0 ∷ ends) (c.len-last.result - 1) 0) c.deref.ensures.value) in
    rw (c.truncate-2.ensures.items, c.truncate.ensures.items) (cut_from_cut _ _ _ popped)

pub returns-clause-rows : goal.returns-clause-rows
returns-clause-rows c =
    let inside = c.self.inside in
    let cut = subst (λ (v : Held). AreCutAt v.rows inside.ends.items inside.places.items) c.self.view_is c.self.invariant in
    let popped = cut_popped c.args.self.now.rows inside.ends.items inside.places.items cut c.requires (c.len-last.result - 1) c.start_of-start.result
    (ap (λ n. n - 1) (c.len-last.ensures ∙ inside.ends.ok.0)) (c.start_of-start.ensures ∙ ap (λ ends. get_or (0 ∷ ends) (c.len-last.result - 1) 0) c.deref.ensures.value) in
    rw (c.truncate-2.ensures.items, c.truncate.ensures.items) (rows_from_cut _ _ _ popped)
