use Rattle.std.proofs.Common.{◌++◌}
use Rattle.pf_convert.specs.Fit.Json.{shown_item}
use Rattle.pf_convert.specs.Conversion.Script.{numbered}
use Rattle.pf_convert.proofs.ConversionLemmas.Numbering.{one_written, all_written}
use Rattle.pf_convert.proofs.fit.json.push_shown_tasks.Goals as goal

pub loop-place-preserved : goal.loop-place-preserved
loop-place-preserved c =
    one_written (shown_item c.args.shown.now) c.args.shown.now.tasks.now c.loop-place.place c.loop-place.place _ c.loop-place.text.items
    c.push_shown_task.new.text.items (c.args.text.now.items ++ numbered (shown_item c.args.shown.now) 0 c.args.shown.now.tasks.now) c.loop-place-test.true
    (c.in_ok-push_shown_task.ensures) c.loop-place.invariant

pub returns : goal.returns
returns c =
    all_written (shown_item c.args.shown.now) c.args.shown.now.tasks.now c.loop-place.place c.loop-place.place c.loop-place.text.items
    (c.args.text.now.items ++ numbered (shown_item c.args.shown.now) 0 c.args.shown.now.tasks.now) c.loop-place-test.false c.loop-place.invariant
