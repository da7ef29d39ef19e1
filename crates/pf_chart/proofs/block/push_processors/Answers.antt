use Rattle.std.proofs.Common.{◌∙◌, ◌-◌, ◌++◌, codes, ap}
use Rattle.std.specs.Fmt.{decimal}
use Rattle.std.specs.List.{range_with_len}
use Rattle.pf_lemmas.proofs.Ranges.{number_next}
use Rattle.pf_chart.specs.Chart.{line_text, processor_line}
use Rattle.pf_chart.proofs.block.push_processors.Goals as goal

pub loop-processor-preserved : goal.loop-processor-preserved
loop-processor-preserved c =
    let slots = range_with_len c.args.from (c.args.to - c.args.from) in
    let p = c.loop-processor.processor in
    let before = c.loop-processor.text.items in
    number_next (processor_line c.args.snapshot.now c.args.places c.args.listed.now slots) p c.args.text.now.items before _
    (c.in_ok-push_processor_line.ensures ∙ ap (λ cells. before ++ line_text c.args.places (codes "p" ++ decimal p) cells) (c.deref.ensures.value ∙ c.in_ok-cells.ensures))
    c.loop-processor.invariant
