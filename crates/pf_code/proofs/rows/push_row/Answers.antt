use Rattle.std.proofs.Common.{◌∙◌, ◌++◌, ap}
use Rattle.pf_lemmas.proofs.Ranges.{number_next}
use Rattle.pf_place.specs.Lent.{lent_row}
use Rattle.pf_place.specs.Occupancy.{sitter}
use Rattle.pf_code.specs.Array.{seat_with}
use Rattle.pf_code.proofs.rows.push_row.Goals as goal

pub loop-processor-preserved : goal.loop-processor-preserved
loop-processor-preserved c =
    let row = lent_row c.args.row in
    number_next (λ p. seat_with p (sitter row p)) c.loop-processor.processor c.args.text.now.items c.loop-processor.text.items _
    (c.in_ok-push_seat.ensures ∙ ap (λ o. c.loop-processor.text.items ++ seat_with c.loop-processor.processor o) c.get.ensures)
    c.loop-processor.invariant
