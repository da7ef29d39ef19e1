use Rattle.std.proofs.Common.{◌++◌, ◌+◌, ◌∙◌, ap}
use Rattle.pf_convert.specs.Conversion.Script.{name_line, numbered}
use Rattle.pf_convert.proofs.ConversionLemmas.Numbering.{one_written, all_written}
use Rattle.pf_convert.proofs.conversion.script.push_names.Goals as goal

pub loop-place-preserved : goal.loop-place-preserved
loop-place-preserved c =
    one_written name_line c.args.tasks.now c.loop-place.place (c.loop-place.place + 1) c.index-tasks-place.result c.loop-place.text.items c.push_name.new.text.items
    (c.args.text.now.items ++ numbered name_line 1 c.args.tasks.now) c.loop-place-test.true
    (c.in_ok-push_name.ensures ∙ ap (λ t. c.loop-place.text.items ++ name_line (c.loop-place.place + 1) t) c.index-tasks-place.is) c.loop-place.invariant

pub returns : goal.returns
returns c =
    all_written name_line c.args.tasks.now c.loop-place.place (c.loop-place.place + 1) c.loop-place.text.items (c.args.text.now.items ++ numbered name_line 1 c.args.tasks.now)
    c.loop-place-test.false c.loop-place.invariant
