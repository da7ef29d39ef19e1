use Rattle.std.proofs.Common.{◌≡◌, ◌∙◌, ◌==◌, true, ap, sym}
use Rattle.std.specs.List.{list_any}
use Rattle.std.proofs.lemmas.Bool.{cond-true}
use Rattle.pf_chart.specs.Cells.{mark_cell}
use Rattle.pf_chart.specs.Chart.{row_cell, track_cell}
use Rattle.pf_chart.proofs.task_lines.row_cell.Goals as goal

pub returns-then-contains : goal.returns-then-contains
returns-then-contains c =
    let listing = c.args.listed.now in
    let t = c.args.t in
    let denied : list_any (λ u. u == t) listing.denied ≡ true =
    ap (list_any (λ u. u == t)) (sym c.denied.ensures) ∙ sym c.contains.ensures.value ∙ c.if-contains.true in
    sym (ap (λ row. row_cell row listing t) c.in-Marks.is ∙ cond-true (list_any (λ u. u == t) listing.denied) 120 (track_cell mark_cell listing t) denied)
