use Rattle.std.proofs.Common.{◌+◌, ◌++◌}
use Rattle.pf_convert.specs.Conversion.Script.{join_line, numbered}
use Rattle.pf_convert.proofs.ConversionLemmas.Numbering.{one_written, all_written}
use Rattle.pf_convert.proofs.conversion.script.push_joins.Goals as goal

pub loop-place-preserved : goal.loop-place-preserved
loop-place-preserved c =
    one_written join_line c.args.tasks.now c.loop-place.place (c.loop-place.place + 1) _ c.loop-place.text.items c.push_join.new.text.items
    (c.args.text.now.items ++ numbered join_line 1 c.args.tasks.now) c.loop-place-test.true c.in_ok-push_join.ensures c.loop-place.invariant

pub returns : goal.returns
returns c =
    all_written join_line c.args.tasks.now c.loop-place.place (c.loop-place.place + 1) c.loop-place.text.items (c.args.text.now.items ++ numbered join_line 1 c.args.tasks.now)
    c.loop-place-test.false c.loop-place.invariant
