use Rattle.std.proofs.Common.{◌++◌, ◌∙◌, ap}
use Rattle.pf_convert.specs.Conversion.Json.{task_item}
use Rattle.pf_convert.specs.Conversion.Script.{numbered}
use Rattle.pf_convert.proofs.ConversionLemmas.Numbering.{one_written, all_written}
use Rattle.pf_convert.proofs.conversion.json.push_tasks.Goals as goal

pub loop-place-preserved : goal.loop-place-preserved
loop-place-preserved c =
    one_written (task_item) c.args.tasks.now c.loop-place.place c.loop-place.place c.index-tasks-place.result c.loop-place.text.items
    c.push_task.new.text.items (c.args.text.now.items ++ numbered (task_item) 0 c.args.tasks.now) c.loop-place-test.true
    (c.in_ok-push_task.ensures ∙ ap (λ t. c.loop-place.text.items ++ task_item c.loop-place.place t) c.index-tasks-place.is) c.loop-place.invariant

pub returns : goal.returns
returns c =
    all_written (task_item) c.args.tasks.now c.loop-place.place c.loop-place.place c.loop-place.text.items
    (c.args.text.now.items ++ numbered (task_item) 0 c.args.tasks.now) c.loop-place-test.false c.loop-place.invariant
