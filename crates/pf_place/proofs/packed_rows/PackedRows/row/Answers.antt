use Rattle.std.proofs.Common.{◌<◌, ◌+◌, ◌*◌, [], ◌∙◌, Some, length, get_or, ap, sym, arith}
use Rattle.std.specs.List.{slice_range}
use Rattle.std.proofs.lemmas.Option.{slice_get_past, slice_get-get_or}
use Rattle.pf_place.proofs.Packed.{count_cut, row_within, row_cut}
use Rattle.pf_place.proofs.packed_rows.PackedRows.row.Goals as goal

pub returns-then-k-self : goal.returns-then-k-self
returns-then-k-self c =
    let inside = c.self.inside in
    sym (slice_get_past c.args.self.now c.args.k (omega (
      arith,
      ap length c.self.view_is,
      count_cut _ inside.width inside.count inside.places.items c.self.invariant,
      c.if-k-self.true,
    )))

pub overflow_mul-start : goal.overflow_mul-start
overflow_mul-start c =
    let inside = c.self.inside in
    omega (arith, row_within _ inside.width inside.count inside.places.items c.self.invariant c.args.k (omega arith), inside.places.ok.0, inside.places.small)

pub overflow_add-start : goal.overflow_add-start
overflow_add-start c =
    let inside = c.self.inside in
    omega (arith, row_within _ inside.width inside.count inside.places.items c.self.invariant c.args.k (omega arith), inside.places.ok.0, inside.places.small)

pub offset_bounds-deref-start : goal.offset_bounds-deref-start
offset_bounds-deref-start c =
    let inside = c.self.inside in
    omega (arith, row_within _ inside.width inside.count inside.places.items c.self.invariant c.args.k (omega arith), inside.places.ok.0, inside.places.small)

pub slice_bounds-of_small-end : goal.slice_bounds-of_small-end
slice_bounds-of_small-end c =
    let inside = c.self.inside in
    omega (arith, row_within _ inside.width inside.count inside.places.items c.self.invariant c.args.k (omega arith), ap length c.deref.ensures.value)

pub returns : goal.returns
returns c =
    let inside = c.self.inside in
    let within : c.args.k < length c.args.self.now =
    omega (arith, ap length c.self.view_is, count_cut _ inside.width inside.count inside.places.items c.self.invariant, c.if-k-self.false) in
    ap Some
    (c.of_small.ensures
    ∙ ap (λ places. slice_range places (c.args.k * inside.width) (c.args.k * inside.width + inside.width)) c.deref.ensures.value
    ∙ row_cut _ inside.width inside.count inside.places.items c.self.invariant c.args.k [] (omega arith)
    ∙ ap (λ rows. get_or rows c.args.k []) c.self.view_is)
    ∙ sym (slice_get-get_or c.args.self.now c.args.k [] within)
