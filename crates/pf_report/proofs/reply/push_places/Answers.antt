use Rattle.std.proofs.Common.{◌≡◌, ◌++◌, ◌∙◌, ap, drop, take, arith}
use Rattle.std.specs.List.{flat_map}
use Rattle.pf_place.specs.Lent.{lent_row}
use Rattle.pf_report.specs.Replies.{place_text}
use Rattle.pf_report.proofs.reply.push_places.Goals as goal

pub returns : goal.returns
returns c =
    let before = c.args.text.now.items in
    let same : c.loop-processor.processor ≡ c.args.from = omega (arith, c.loop-processor-test.false, c.loop-processor.invariant.within) in
    c.in_ok-extend_from_slice.ensures.items
    ∙ ap (λ t. before ++ t)
    (c.as_bytes.ensures ∙ c.loop-processor.invariant.text ∙ ap (λ p. flat_map place_text (drop p (take c.args.to (lent_row c.args.row)))) same)
