use Rattle.std.proofs.Common.{[]}
use Rattle.pf_lemmas.proofs.Ranges.{number_next}
use Rattle.pf_place.specs.Occupancy.{sitter}
use Rattle.pf_code.specs.Array.{seat_with}
use Rattle.pf_code.proofs.rows.push_nobody.Goals as goal

pub loop-processor-preserved : goal.loop-processor-preserved
loop-processor-preserved c =
    number_next (λ p. seat_with p (sitter [] p)) c.loop-processor.processor c.args.text.now.items c.loop-processor.text.items _
    c.in_ok-push_seat.ensures c.loop-processor.invariant
