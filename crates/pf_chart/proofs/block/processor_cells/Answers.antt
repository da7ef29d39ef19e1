use Rattle.std.proofs.Common.{◌≡◌, ◌∙◌, ◌-◌, ◌++◌, ◌∷◌, [], length, map, get_or, ap, ap₂, sym, arith}
use Rattle.std.specs.List.{range_with_len}
use Rattle.std.proofs.lemmas.List.FromFn.{length-map-range_with_len}
use Rattle.pf_place.specs.Lent.{lent_row}
use Rattle.pf_chart.specs.Chart.{processor_cell}
use Rattle.pf_courses.specs.Listing.{count_in}
use Rattle.pf_chart.proofs.Blocks.{cell_is}
use Rattle.pf_courses.proofs.Built.{cells_more}
use Rattle.pf_chart.proofs.block.processor_cells.Goals as goal

pub count_at-count-requires : goal.count_at-count-requires
count_at-count-requires c =
    let seen = c.args.snapshot.now in
    omega (arith, ap length c.requires.counts, length-map-range_with_len (count_in seen.state.plan seen.state.now) 0 (length seen.rows), c.requires.within, c.loop-t-test.true)

pub loop-t-preserved : goal.loop-t-preserved
loop-t-preserved c =
    let seen = c.args.snapshot.now in
    let listed = c.args.listed.now in
    let p = c.args.processor in
    let t = c.loop-t.t in
    let is = cell_is seen listed c.args.counts.now p t c.count_at-count.result c.processor_cell.result 0 (lent_row c.row_at-row.result) (omega (arith, c.requires.within, c.loop-t-test.true)) c.requires.counts
    c.count_at-count.ensures c.row_at-row.ensures.row c.processor_cell.ensures in
    record {
      cells = c.in_ok-push.ensures.items ∙ ap₂ (λ xs x. xs ++ x ∷ []) c.loop-t.invariant.cells is
          ∙ sym (cells_more (λ t. processor_cell listed (count_in seen.state.plan seen.state.now t) (get_or seen.rows t []) p) c.args.from t (omega arith));
      short = omega (arith, c.loop-t-test.true);
    }

pub returns : goal.returns
returns c =
    let seen = c.args.snapshot.now in
    let listed = c.args.listed.now in
    let p = c.args.processor in
    c.loop-t.invariant.cells ∙ ap (λ n. map (λ t. processor_cell listed (count_in seen.state.plan seen.state.now t) (get_or seen.rows t []) p) (range_with_len c.args.from n))
    (let z : c.loop-t.t - c.args.from ≡ c.args.to - c.args.from = omega (arith, c.loop-t-test.false, c.loop-t.invariant.short) in z)
