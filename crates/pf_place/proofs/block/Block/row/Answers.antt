use Rattle.std.proofs.Common.{◌<◌, ◌+◌, [], ◌∷◌, ◌∙◌, Some, get_or, length, subst, ap, sym, arith}
use Rattle.pf_place.specs.Blocks.{Held, AreCutAt}
use Rattle.std.specs.List.{slice_range}
use Rattle.std.proofs.lemmas.Option.{slice_get_past, slice_get-get_or}
use Rattle.pf_place.proofs.Blocks.{ends_from_cut, row_bounds, row_from_cut}
use Rattle.pf_place.proofs.block.Block.row.Goals as goal

pub returns-then-len-k : goal.returns-then-len-k
returns-then-len-k c =
    let inside = c.self.inside in
    let cut = subst (λ (v : Held). AreCutAt v.rows inside.ends.items inside.places.items) c.self.view_is c.self.invariant in
    sym (slice_get_past c.args.self.now.rows c.args.k (omega (arith, ends_from_cut _ _ _ cut, inside.ends.ok.0)))

pub row_between-requires-clause-start : goal.row_between-requires-clause-start
row_between-requires-clause-start c =
    let inside = c.self.inside in
    let cut = subst (λ (v : Held). AreCutAt v.rows inside.ends.items inside.places.items) c.self.view_is c.self.invariant in
    let start_is = c.start_of-start.ensures ∙ ap (λ ends. get_or (0 ∷ ends) c.args.k 0) c.deref.ensures.value in
    let end_is = c.start_of-end.ensures ∙ ap (λ ends. get_or (0 ∷ ends) (c.args.k + 1) 0) c.deref-2.ensures.value in
    let within : c.args.k < length c.args.self.now.rows = omega (arith, ends_from_cut _ _ _ cut, inside.ends.ok.0) in
    (row_bounds c.args.self.now.rows inside.ends.items inside.places.items c.args.k _ _ cut within start_is end_is).0

pub row_between-requires-clause-end : goal.row_between-requires-clause-end
row_between-requires-clause-end c =
    let inside = c.self.inside in
    let cut = subst (λ (v : Held). AreCutAt v.rows inside.ends.items inside.places.items) c.self.view_is c.self.invariant in
    let start_is = c.start_of-start.ensures ∙ ap (λ ends. get_or (0 ∷ ends) c.args.k 0) c.deref.ensures.value in
    let end_is = c.start_of-end.ensures ∙ ap (λ ends. get_or (0 ∷ ends) (c.args.k + 1) 0) c.deref-2.ensures.value in
    let within : c.args.k < length c.args.self.now.rows = omega (arith, ends_from_cut _ _ _ cut, inside.ends.ok.0) in
    omega (arith, (row_bounds c.args.self.now.rows inside.ends.items inside.places.items c.args.k _ _ cut within start_is end_is).1, ap length c.deref-3.ensures.value)

pub returns : goal.returns
returns c =
    let inside = c.self.inside in
    let cut = subst (λ (v : Held). AreCutAt v.rows inside.ends.items inside.places.items) c.self.view_is c.self.invariant in
    let start_is = c.start_of-start.ensures ∙ ap (λ ends. get_or (0 ∷ ends) c.args.k 0) c.deref.ensures.value in
    let end_is = c.start_of-end.ensures ∙ ap (λ ends. get_or (0 ∷ ends) (c.args.k + 1) 0) c.deref-2.ensures.value in
    let within : c.args.k < length c.args.self.now.rows = omega (arith, ends_from_cut _ _ _ cut, inside.ends.ok.0) in
    ap Some
    (c.row_between.ensures ∙ ap (λ places. slice_range places c.start_of-start.result c.start_of-end.result) c.deref-3.ensures.value
    ∙ row_from_cut c.args.self.now.rows inside.ends.items inside.places.items c.args.k _ _ [] cut within start_is end_is)
    ∙ sym (slice_get-get_or c.args.self.now.rows c.args.k [] within)
