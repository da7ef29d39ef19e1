use Rattle.std.proofs.Common.{◌≡◌, ◌∙◌, Err, sym, ap, arith}
use Rattle.std.proofs.lemmas.Grind.{common_steps}
use Rattle.csv.specs.Records.{fields_of}
use Rattle.pf_convert.specs.List.Heading.{field_given, heading_in, needed_in}
use Rattle.pf_convert.proofs.ListLemmas.Reading.{next_field, bad_field, all_fields}
use Rattle.pf_convert.proofs.list.heading.Heading.read.Goals as goal

pub returns-in_err-heading : goal.returns-in_err-heading
returns-in_err-heading c =
    let bad : Err c.in_err-heading.field-0.0 ≡ heading_in (fields_of c.args.row.now) =
    sym (bad_field (fields_of c.args.row.now) c.loop-place.place c.loop-place.heading c.in_err-heading.field-0.0
    (omega (arith, c.loop-place-test.true, c.len-place-end.ensures))
    (c.in_err-heading.ensures ∙ ap (field_given c.loop-place.place c.loop-place.heading) c.field_of.ensures))
    ∙ c.loop-place.invariant in
    grind (arith, common_steps, bad)

pub loop-place-preserved : goal.loop-place-preserved
loop-place-preserved c =
    sym (next_field (fields_of c.args.row.now) c.loop-place.place c.loop-place.heading c.in_ok-heading.heading (omega (arith, c.loop-place-test.true, c.len-place-end.ensures))
    (c.in_ok-heading.ensures ∙ ap (field_given c.loop-place.place c.loop-place.heading) c.field_of.ensures))
    ∙ c.loop-place.invariant

pub returns : goal.returns
returns c =
    c.complete.ensures
    ∙ ap (λ n. needed_in n c.loop-place.heading) c.field_number.ensures
    ∙ sym (all_fields (fields_of c.args.row.now) c.loop-place.place _ c.loop-place.heading c.len.ensures
    (omega (arith, c.loop-place-test.false, c.len-place-end.ensures)) (omega (arith, c.loop-place.auto.place-end, c.len.ensures, c.len-place-end.ensures)))
    ∙ c.loop-place.invariant
