use Rattle.std.proofs.Common.{◌≡◌, ◌+◌, ◌*◌, ◌<◌, ◌++◌, ◌∙◌, append_assoc, ap, drop, length, take, arith}
use Rattle.std.specs.Prelude.{min}
use Rattle.std.specs.List.{flat_map}
use Rattle.std.proofs.lemmas.Grind.{div_ceil_times}
use Rattle.pf_place.specs.Lent.{lent_row}
use Rattle.pf_report.specs.Replies.{place_text}
use Rattle.pf_report.proofs.Replying.{places_more}
use Rattle.pf_report.proofs.reply.push_row.Goals as goal

pub loop-eight-preserved : goal.loop-eight-preserved
loop-eight-preserved c =
    let row = lent_row c.args.row in
    let before = c.args.text.now.items in
    let from = c.loop-eight.eight * 8 in
    let to = c.min.result in
    let all : c.processors-processors.result ≡ length row = c.processors-processors.ensures in
    let eights = div_ceil_times c.processors-processors.result 8 (omega arith) in
    let below : from < length row = omega (arith, all, eights.1, c.div_ceil-eight-end.ensures, c.loop-eight-test.true) in
    let first : min from (length row) ≡ from = omega (arith, below) in
    let last : to ≡ min ((c.loop-eight.eight + 1) * 8) (length row) = omega (arith, all, c.min.ensures) in
    let more = flat_map place_text (drop from (take to row)) in
    c.in_ok-push_places.ensures
    ∙ ap (λ t. t ++ more) c.loop-eight.invariant
    ∙ append_assoc before (flat_map place_text (take (min from (length row)) row)) more
    ∙ ap (λ t. before ++ t)
    (ap (λ n. flat_map place_text (take n row) ++ more) first
    ∙ places_more row from to (omega (arith, below, last))
    ∙ ap (λ n. flat_map place_text (take n row)) last)
