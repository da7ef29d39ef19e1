use Rattle.std.proofs.Common.{◌-◌, ◌∷◌, ◌∙◌, get_or, length, subst, ap, arith}
use Rattle.pf_place.specs.Blocks.{Held, AreCutAt}
use Rattle.pf_place.specs.Lent.{lent_row}
use Rattle.pf_place.proofs.Blocks.{last_is_rest, cut_other, cut_from_cut, rows_from_cut, written_back}
use Rattle.pf_place.proofs.block.Block.assign_last.Goals as goal

pub assign_from-requires : goal.assign_from-requires
assign_from-requires c =
    let inside = c.self.inside in
    let cut = subst (λ (v : Held). AreCutAt v.rows inside.ends.items inside.places.items) c.self.view_is c.self.invariant in
    let last_is = ap (λ n. n - 1) (c.len-last.ensures ∙ inside.ends.ok.0) in
    let start_is = c.start_of-start.ensures ∙ ap (λ ends. get_or (0 ∷ ends) (c.len-last.result - 1) 0) c.deref.ensures.value in
    omega (arith, last_is_rest c.args.self.now.rows inside.ends.items inside.places.items cut c.requires.some _ _ last_is start_is, c.requires.long, ap length c.deref_mut.ensures.value)

pub invariant_of-self : goal.invariant_of-self
invariant_of-self c =
    let inside = c.self.inside in
    let cut = subst (λ (v : Held). AreCutAt v.rows inside.ends.items inside.places.items) c.self.view_is c.self.invariant in
    let last_is = ap (λ n. n - 1) (c.len-last.ensures ∙ inside.ends.ok.0) in
    let start_is = c.start_of-start.ensures ∙ ap (λ ends. get_or (0 ∷ ends) (c.len-last.result - 1) 0) c.deref.ensures.value in
    let other = cut_other c.args.self.now.rows inside.ends.items inside.places.items cut c.requires.some _ _ last_is start_is (lent_row c.args.row) c.requires.long in
    let back = written_back inside.places.items c.assign_from.new.places inside.places.len inside.places.ok.0 (omega (arith, c.assign_from.auto.places, ap length c.deref_mut.ensures.value)) in
    rw (back, c.assign_from.ensures, c.deref_mut.ensures.value) (cut_from_cut _ _ _ other)

pub returns-clause-rows : goal.returns-clause-rows
returns-clause-rows c =
    let inside = c.self.inside in
    let cut = subst (λ (v : Held). AreCutAt v.rows inside.ends.items inside.places.items) c.self.view_is c.self.invariant in
    let last_is = ap (λ n. n - 1) (c.len-last.ensures ∙ inside.ends.ok.0) in
    let start_is = c.start_of-start.ensures ∙ ap (λ ends. get_or (0 ∷ ends) (c.len-last.result - 1) 0) c.deref.ensures.value in
    let other = cut_other c.args.self.now.rows inside.ends.items inside.places.items cut c.requires.some _ _ last_is start_is (lent_row c.args.row) c.requires.long in
    let back = written_back inside.places.items c.assign_from.new.places inside.places.len inside.places.ok.0 (omega (arith, c.assign_from.auto.places, ap length c.deref_mut.ensures.value)) in
    rw (back, c.assign_from.ensures, c.deref_mut.ensures.value) (rows_from_cut _ _ _ other)
