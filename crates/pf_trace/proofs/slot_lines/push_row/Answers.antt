use Rattle.std.proofs.Common.{◌∙◌, ◌++◌, ap}
use Rattle.pf_lemmas.proofs.Ranges.{number_next}
use Rattle.pf_place.specs.Lent.{lent_row}
use Rattle.pf_place.specs.Occupancy.{sitter}
use Rattle.pf_trace.specs.Runs.{sitter_lines, trace_at}
use Rattle.pf_trace.proofs.slot_lines.push_row.Goals as goal

pub loop-processor-preserved : goal.loop-processor-preserved
loop-processor-preserved c =
    let row = lent_row c.args.row in
    let line = sitter_lines (trace_at c.args.tasks.now) c.args.t in
    let p = c.loop-processor.processor in
    number_next (λ p. line p (sitter row p)) p c.args.text.now.items c.loop-processor.text.items _
    (c.in_ok-push_sitter.ensures ∙ ap (λ o. c.loop-processor.text.items ++ line p o) c.get.ensures) c.loop-processor.invariant
