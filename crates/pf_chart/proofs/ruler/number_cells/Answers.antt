use Rattle.std.proofs.Common.{◌≡◌, ◌∙◌, ◌-◌, ◌++◌, ◌∷◌, [], map, ap, ap₂, sym, arith}
use Rattle.std.specs.List.{range_with_len}
use Rattle.pf_chart.specs.Chart.{number_cell}
use Rattle.pf_courses.proofs.Built.{cells_more}
use Rattle.pf_chart.proofs.ruler.number_cells.Goals as goal

pub loop-t-preserved : goal.loop-t-preserved
loop-t-preserved c = record {
  cells = c.in_ok-push.ensures.items ∙ ap₂ (λ xs x. xs ++ x ∷ []) c.loop-t.invariant.cells c.in_ok-number_cell.ensures
      ∙ sym (cells_more (number_cell c.args.from) c.args.from c.loop-t.t (omega arith));
  short = omega (arith, c.loop-t-test.true);
}

pub returns : goal.returns
returns c =
    c.loop-t.invariant.cells ∙ ap (λ n. map (number_cell c.args.from) (range_with_len c.args.from n))
    (let z : c.loop-t.t - c.args.from ≡ c.args.to - c.args.from = omega (arith, c.loop-t-test.false, c.loop-t.invariant.short) in z)
