use Rattle.std.proofs.Common.{◌≡◌, ◌∙◌, ◌-◌, ◌++◌, ◌∷◌, [], map, ap, ap₂, sym, arith}
use Rattle.std.specs.List.{range_with_len}
use Rattle.pf_chart.specs.Chart.{tick_cell}
use Rattle.pf_courses.proofs.Built.{cells_more}
use Rattle.pf_chart.proofs.ruler.tick_cells.Goals as goal

pub loop-t-preserved : goal.loop-t-preserved
loop-t-preserved c = record {
  cells = c.in_ok-push.ensures.items ∙ ap₂ (λ xs x. xs ++ x ∷ []) c.loop-t.invariant.cells c.tick_cell.ensures
      ∙ sym (cells_more tick_cell c.args.from c.loop-t.t (omega arith));
  short = omega (arith, c.loop-t-test.true);
}

pub returns : goal.returns
returns c =
    c.loop-t.invariant.cells ∙ ap (λ n. map tick_cell (range_with_len c.args.from n))
    (let z : c.loop-t.t - c.args.from ≡ c.args.to - c.args.from = omega (arith, c.loop-t-test.false, c.loop-t.invariant.short) in z)
