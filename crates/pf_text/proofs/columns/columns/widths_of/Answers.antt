use Rattle.std.proofs.Common.{◌∙◌, ◌++◌, ◌∷◌, [], ap, ap₂, sym, map, length, arith}
use Rattle.std.specs.List.{range_with_len}
use Rattle.std.proofs.lemmas.List.FromFn.{length-map-range_with_len, map-range_with_len_more}
use Rattle.pf_text.specs.Columns.Columns.{width_of}
use Rattle.pf_text.proofs.columns.columns.widths_of.Goals as goal

pub loop-column-preserved : goal.loop-column-preserved
loop-column-preserved c =
    let k = c.loop-column.column in
    c.in_ok-push.ensures.items
    ∙ ap₂ (λ xs w. xs ++ w ∷ []) c.loop-column.invariant c.width_of.ensures
    ∙ sym (map-range_with_len_more (width_of c.args.rows.now) 0 k k (omega arith))

pub returns : goal.returns
returns c =
    let k = c.loop-column.column in
    c.loop-column.invariant
    ∙ ap (λ n. map (width_of c.args.rows.now) (range_with_len 0 n))
    (sym (ap length c.loop-column.invariant ∙ length-map-range_with_len (width_of c.args.rows.now) 0 k))
