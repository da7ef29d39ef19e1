use Rattle.std.proofs.Common.{◌∙◌, ◌++◌, ◌+◌, codes, drop, sym, ap, arith}
use Rattle.csv.specs.Records.{fields_of}
use Rattle.pf_convert.specs.List.Heading.{names_after}
use Rattle.pf_convert.proofs.ListLemmas.Reading.{name_pushed, names_pushed}
use Rattle.pf_convert.proofs.list.heading.push_names.Goals as goal

pub loop-place-preserved : goal.loop-place-preserved
loop-place-preserved c =
    let names = fields_of c.args.names.now in
    let place = c.loop-place.place in
    let text = c.loop-place.text.items in
    ap (λ t. t ++ names_after (drop (place + 1) names))
    (c.in_ok-extend_from_slice-3.ensures.items
    ∙ ap (λ t. t ++ c.field_of-in-loop-place.result.now) c.in_ok-extend_from_slice-2.ensures.items
    ∙ ap (λ name. (text ++ codes ",") ++ name) c.field_of-in-loop-place.ensures)
    ∙ name_pushed names place text (omega (arith, c.loop-place-test.true, c.len-place-end.ensures))
    ∙ c.loop-place.invariant

pub returns : goal.returns
returns c =
    sym (names_pushed (fields_of c.args.names.now) c.loop-place.place c.loop-place.text.items
    (omega (arith, c.loop-place-test.false, c.len-place-end.ensures)))
    ∙ c.loop-place.invariant
