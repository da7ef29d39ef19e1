use Rattle.std.proofs.Common.{◌∙◌, ◌++◌, ap}
use Rattle.pf_lemmas.proofs.Ranges.{number_next}
use Rattle.pf_place.specs.Lent.{lent_row}
use Rattle.pf_place.specs.Occupancy.{sitter}
use Rattle.pf_why_text.specs.Head.{place_text}
use Rattle.pf_why_text.proofs.head.push_places.Goals as goal

pub loop-processor-preserved : goal.loop-processor-preserved
loop-processor-preserved c =
    let row = lent_row c.args.row in
    number_next (λ p. place_text c.args.names.now c.args.count p (sitter row p)) c.loop-processor.processor c.args.text.now.items c.loop-processor.text.items _
    (c.in_ok-extend_from_slice.ensures.items
    ∙ ap (λ s. c.loop-processor.text.items ++ s)
    (c.as_bytes.ensures.value ∙ c.in_ok-line.ensures ∙ ap (place_text c.args.names.now c.args.count c.loop-processor.processor) c.get.ensures))
    c.loop-processor.invariant
