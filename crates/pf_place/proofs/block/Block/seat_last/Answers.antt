use Rattle.std.proofs.Common.{◌-◌, ◌∷◌, ◌++◌, ◌∙◌, get_or, length, take, subst, ap, arith}
use Rattle.pf_place.specs.Blocks.{Held, AreCutAt}
use Rattle.std.specs.List.{slice_range}
use Rattle.pf_place.specs.Occupancy.{row_of}
use Rattle.pf_place.specs.Lent.{lent_row}
use Rattle.pf_place.proofs.Blocks.{last_is_rest, only_row, before_start, cut_seated_first, cut_seated, cut_from_cut, rows_from_cut, written_back}
use Rattle.pf_place.proofs.block.Block.seat_last.Goals as goal

pub seat-requires : goal.seat-requires
seat-requires c =
    let inside = c.self.inside in
    let cut = subst (λ (v : Held). AreCutAt v.rows inside.ends.items inside.places.items) c.self.view_is c.self.invariant in
    let last_is = ap (λ n. n - 1) (c.len-last.ensures ∙ inside.ends.ok.0) in
    let start_is = c.start_of-start.ensures ∙ ap (λ ends. get_or (0 ∷ ends) (c.len-last.result - 1) 0) c.deref.ensures.value in
    omega (arith, only_row c.args.self.now.rows inside.ends.items inside.places.items cut c.requires.some _ _ last_is start_is c.if-last-eq0.true, c.requires.in_use, ap length c.deref_mut.ensures.value)

pub invariant_of-self : goal.invariant_of-self
invariant_of-self c =
    let inside = c.self.inside in
    let cut = subst (λ (v : Held). AreCutAt v.rows inside.ends.items inside.places.items) c.self.view_is c.self.invariant in
    let last_is = ap (λ n. n - 1) (c.len-last.ensures ∙ inside.ends.ok.0) in
    let start_is = c.start_of-start.ensures ∙ ap (λ ends. get_or (0 ∷ ends) (c.len-last.result - 1) 0) c.deref.ensures.value in
    let seated = cut_seated_first c.args.self.now.rows inside.ends.items inside.places.items cut c.requires.some _ _ last_is start_is c.args.count (lent_row c.args.above) c.args.picks.now
    c.seat.new.places c.if-last-eq0.true (c.seat.ensures ∙ ap (λ places. row_of (length places) c.args.count (lent_row c.args.above) c.args.picks.now) c.deref_mut.ensures.value) in
    let back = written_back inside.places.items c.seat.new.places inside.places.len inside.places.ok.0 (omega (arith, c.seat.auto.places, ap length c.deref_mut.ensures.value)) in
    rw back (cut_from_cut _ _ _ seated)

pub returns-then-last-eq0-clause-rows : goal.returns-then-last-eq0-clause-rows
returns-then-last-eq0-clause-rows c =
    let inside = c.self.inside in
    let cut = subst (λ (v : Held). AreCutAt v.rows inside.ends.items inside.places.items) c.self.view_is c.self.invariant in
    let last_is = ap (λ n. n - 1) (c.len-last.ensures ∙ inside.ends.ok.0) in
    let start_is = c.start_of-start.ensures ∙ ap (λ ends. get_or (0 ∷ ends) (c.len-last.result - 1) 0) c.deref.ensures.value in
    let seated = cut_seated_first c.args.self.now.rows inside.ends.items inside.places.items cut c.requires.some _ _ last_is start_is c.args.count (lent_row c.args.above) c.args.picks.now
    c.seat.new.places c.if-last-eq0.true (c.seat.ensures ∙ ap (λ places. row_of (length places) c.args.count (lent_row c.args.above) c.args.picks.now) c.deref_mut.ensures.value) in
    let back = written_back inside.places.items c.seat.new.places inside.places.len inside.places.ok.0 (omega (arith, c.seat.auto.places, ap length c.deref_mut.ensures.value)) in
    rw back (rows_from_cut _ _ _ seated)

pub seat_behind-requires-clause-before : goal.seat_behind-requires-clause-before
seat_behind-requires-clause-before c =
    let inside = c.self.inside in
    let cut = subst (λ (v : Held). AreCutAt v.rows inside.ends.items inside.places.items) c.self.view_is c.self.invariant in
    let last_is = ap (λ n. n - 1) (c.len-last.ensures ∙ inside.ends.ok.0) in
    let start_is = c.start_of-start.ensures ∙ ap (λ ends. get_or (0 ∷ ends) (c.len-last.result - 1) 0) c.deref.ensures.value in
    let before_is = c.start_of-before.ensures ∙ ap (λ ends. get_or (0 ∷ ends) (c.len-last.result - 1 - 1) 0) c.deref-else-last-eq0.ensures.value in
    before_start c.args.self.now.rows inside.ends.items inside.places.items cut c.requires.some _ _ last_is start_is c.start_of-before.result (omega arith) before_is

pub seat_behind-requires-clause-start : goal.seat_behind-requires-clause-start
seat_behind-requires-clause-start c =
    let inside = c.self.inside in
    let cut = subst (λ (v : Held). AreCutAt v.rows inside.ends.items inside.places.items) c.self.view_is c.self.invariant in
    let last_is = ap (λ n. n - 1) (c.len-last.ensures ∙ inside.ends.ok.0) in
    let start_is = c.start_of-start.ensures ∙ ap (λ ends. get_or (0 ∷ ends) (c.len-last.result - 1) 0) c.deref.ensures.value in
    omega (arith, last_is_rest c.args.self.now.rows inside.ends.items inside.places.items cut c.requires.some _ _ last_is start_is, ap length c.deref_mut-else-last-eq0.ensures.value)

pub seat_behind-requires-clause-in_use : goal.seat_behind-requires-clause-in_use
seat_behind-requires-clause-in_use c =
    let inside = c.self.inside in
    let cut = subst (λ (v : Held). AreCutAt v.rows inside.ends.items inside.places.items) c.self.view_is c.self.invariant in
    let last_is = ap (λ n. n - 1) (c.len-last.ensures ∙ inside.ends.ok.0) in
    let start_is = c.start_of-start.ensures ∙ ap (λ ends. get_or (0 ∷ ends) (c.len-last.result - 1) 0) c.deref.ensures.value in
    omega (arith, last_is_rest c.args.self.now.rows inside.ends.items inside.places.items cut c.requires.some _ _ last_is start_is, c.requires.in_use, ap length c.deref_mut-else-last-eq0.ensures.value)

pub invariant_of-self-else-last-eq0 : goal.invariant_of-self-else-last-eq0
invariant_of-self-else-last-eq0 c =
    let inside = c.self.inside in
    let cut = subst (λ (v : Held). AreCutAt v.rows inside.ends.items inside.places.items) c.self.view_is c.self.invariant in
    let last_is = ap (λ n. n - 1) (c.len-last.ensures ∙ inside.ends.ok.0) in
    let start_is = c.start_of-start.ensures ∙ ap (λ ends. get_or (0 ∷ ends) (c.len-last.result - 1) 0) c.deref.ensures.value in
    let before_is = c.start_of-before.ensures ∙ ap (λ ends. get_or (0 ∷ ends) (c.len-last.result - 1 - 1) 0) c.deref-else-last-eq0.ensures.value in
    let seated = cut_seated c.args.self.now.rows inside.ends.items inside.places.items cut c.requires.some _ _ last_is start_is c.args.count c.start_of-before.result (lent_row c.args.above) c.args.picks.now
    c.seat_behind.new.places (omega arith) before_is
    (c.seat_behind.ensures ∙ ap (λ places. take c.start_of-start.result places ++ row_of (length places - c.start_of-start.result) c.args.count (slice_range places c.start_of-before.result c.start_of-start.result) c.args.picks.now) c.deref_mut-else-last-eq0.ensures.value) in
    let back = written_back inside.places.items c.seat_behind.new.places inside.places.len inside.places.ok.0 (omega (arith, c.seat_behind.auto.places, ap length c.deref_mut-else-last-eq0.ensures.value)) in
    rw back (cut_from_cut _ _ _ seated)

pub returns-else-last-eq0-clause-rows : goal.returns-else-last-eq0-clause-rows
returns-else-last-eq0-clause-rows c =
    let inside = c.self.inside in
    let cut = subst (λ (v : Held). AreCutAt v.rows inside.ends.items inside.places.items) c.self.view_is c.self.invariant in
    let last_is = ap (λ n. n - 1) (c.len-last.ensures ∙ inside.ends.ok.0) in
    let start_is = c.start_of-start.ensures ∙ ap (λ ends. get_or (0 ∷ ends) (c.len-last.result - 1) 0) c.deref.ensures.value in
    let before_is = c.start_of-before.ensures ∙ ap (λ ends. get_or (0 ∷ ends) (c.len-last.result - 1 - 1) 0) c.deref-else-last-eq0.ensures.value in
    let seated = cut_seated c.args.self.now.rows inside.ends.items inside.places.items cut c.requires.some _ _ last_is start_is c.args.count c.start_of-before.result (lent_row c.args.above) c.args.picks.now
    c.seat_behind.new.places (omega arith) before_is
    (c.seat_behind.ensures ∙ ap (λ places. take c.start_of-start.result places ++ row_of (length places - c.start_of-start.result) c.args.count (slice_range places c.start_of-before.result c.start_of-start.result) c.args.picks.now) c.deref_mut-else-last-eq0.ensures.value) in
    let back = written_back inside.places.items c.seat_behind.new.places inside.places.len inside.places.ok.0 (omega (arith, c.seat_behind.auto.places, ap length c.deref_mut-else-last-eq0.ensures.value)) in
    rw back (rows_from_cut _ _ _ seated)
