use Rattle.std.proofs.Common.{◌++◌}
use Rattle.pf_convert.specs.Conversion.Json.{slots_item}
use Rattle.pf_convert.specs.Conversion.Script.{numbered}
use Rattle.pf_convert.proofs.ConversionLemmas.Numbering.{one_written, all_written}
use Rattle.pf_convert.proofs.conversion.json.push_slots.Goals as goal

pub loop-place-preserved : goal.loop-place-preserved
loop-place-preserved c =
    one_written (slots_item c.args.quantum) c.args.tasks.now c.loop-place.place c.loop-place.place _ c.loop-place.text.items
    c.push_slotted.new.text.items (c.args.text.now.items ++ numbered (slots_item c.args.quantum) 0 c.args.tasks.now) c.loop-place-test.true
    (c.in_ok-push_slotted.ensures) c.loop-place.invariant

pub returns : goal.returns
returns c =
    all_written (slots_item c.args.quantum) c.args.tasks.now c.loop-place.place c.loop-place.place c.loop-place.text.items
    (c.args.text.now.items ++ numbered (slots_item c.args.quantum) 0 c.args.tasks.now) c.loop-place-test.false c.loop-place.invariant
