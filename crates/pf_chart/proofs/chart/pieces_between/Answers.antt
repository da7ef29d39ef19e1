use Rattle.std.proofs.Common.{◌∙◌, ◌++◌, sym, ap, ap₂, append_assoc, arith}
use Rattle.pf_desk.proofs.Places.{length-rows}
use Rattle.pf_chart.specs.Chart.{blocks_text}
use Rattle.pf_chart.specs.Labels.{labels_of}
use Rattle.pf_chart.proofs.chart.pieces_between.Goals as goal

pub invariant_of-blocks : goal.invariant_of-blocks
invariant_of-blocks c =
    let seen = c.args.snapshot.now in
    (c.in_ok-counts.ensures, omega (arith, c.requires, length-rows seen.state.plan _ seen.rows seen.denials c.now.ensures.of_run))

pub returns : goal.returns
returns c =
    let seen = c.args.snapshot.now in
    let shown = c.args.shown.items in
    let labels = c.in_ok-labels.ensures ∙ ap (labels_of c.args.titles.now.names) c.deref.ensures.value in
    let blocks = ap (λ labels. blocks_text seen labels shown c.args.from c.args.to) labels in
    c.new-4.ensures ∙ ap₂ (λ a b. a ++ b) c.new.ensures (c.new-3.ensures ∙ ap₂ (λ a b. a ++ b) blocks c.new-2.ensures)
    ∙ sym (append_assoc c.args.head.items (blocks_text seen (labels_of c.args.titles.now.names shown) shown c.args.from c.args.to) c.args.legend.items)
