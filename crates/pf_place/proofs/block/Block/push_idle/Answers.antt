use Rattle.std.proofs.Common.{◌≡◌, ◌+◌, ◌++◌, Option, None, [], ◌∷◌, length, replicate, subst, ap, ap₂, ◌∙◌, arith}
use Rattle.pf_place.specs.Blocks.{Held, AreCutAt}
use Rattle.std.proofs.lemmas.List.{take_all, length-replicate}
use Rattle.pf_order.specs.declared.pick.Pick.{Pick}
use Rattle.pf_place.specs.Occupancy.{idle_row}
use Rattle.pf_place.proofs.Blocks.{cut_more, cut_from_cut, rows_from_cut}
use Rattle.pf_place.proofs.block.Block.push_idle.Goals as goal

pub invariant_of-self-2 : goal.invariant_of-self-2
invariant_of-self-2 c =
    let inside = c.self.inside in
    let cut = subst (λ (v : Held). AreCutAt v.rows inside.ends.items inside.places.items) c.self.view_is c.self.invariant in
    let places : c.resize.new.self.items ≡ inside.places.items ++ idle_row c.args.m =
    c.in-Ok.ensures.items
    ∙ rw c.idle.ensures (ap₂ (λ front n. front ++ replicate n None)
    (take_all (c.len.result + c.args.m) c.reserve-2.new.self.items (omega (arith, c.len.ensures, c.reserve-2.new.self.ok.0)) ∙ c.in_ok-reserve-2.ensures.items)
    (omega (arith, c.len.ensures))) in
    let ends : c.push_reserved.new.self.items ≡ inside.ends.items ++ (length inside.places.items + length (idle_row c.args.m)) ∷ [] =
    c.push_reserved.ensures.items
    ∙ ap₂ (λ ends n. ends ++ n ∷ []) c.in_ok-reserve.ensures.items
    (omega (arith, c.len.ensures, c.reserve-2.new.self.ok.0, ap length c.in_ok-reserve-2.ensures.items, length-replicate c.args.m (let none : Option Pick = None in none))) in
    let more = cut_more c.args.self.now.rows inside.ends.items inside.places.items (idle_row c.args.m) cut in
    rw (places, ends) (cut_from_cut _ _ _ more)

pub returns-clause-ok : goal.returns-clause-ok
returns-clause-ok c =
    let inside = c.self.inside in
    let cut = subst (λ (v : Held). AreCutAt v.rows inside.ends.items inside.places.items) c.self.view_is c.self.invariant in
    let places : c.resize.new.self.items ≡ inside.places.items ++ idle_row c.args.m =
    c.in-Ok.ensures.items
    ∙ rw c.idle.ensures (ap₂ (λ front n. front ++ replicate n None)
    (take_all (c.len.result + c.args.m) c.reserve-2.new.self.items (omega (arith, c.len.ensures, c.reserve-2.new.self.ok.0)) ∙ c.in_ok-reserve-2.ensures.items)
    (omega (arith, c.len.ensures))) in
    let ends : c.push_reserved.new.self.items ≡ inside.ends.items ++ (length inside.places.items + length (idle_row c.args.m)) ∷ [] =
    c.push_reserved.ensures.items
    ∙ ap₂ (λ ends n. ends ++ n ∷ []) c.in_ok-reserve.ensures.items
    (omega (arith, c.len.ensures, c.reserve-2.new.self.ok.0, ap length c.in_ok-reserve-2.ensures.items, length-replicate c.args.m (let none : Option Pick = None in none))) in
    let more = cut_more c.args.self.now.rows inside.ends.items inside.places.items (idle_row c.args.m) cut in
    rw (places, ends) (rows_from_cut _ _ _ more)
