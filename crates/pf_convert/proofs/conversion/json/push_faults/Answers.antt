use Rattle.std.proofs.Common.{◌++◌}
use Rattle.pf_convert.specs.Conversion.Json.{fault_item}
use Rattle.pf_convert.specs.Conversion.Script.{numbered}
use Rattle.pf_convert.proofs.ConversionLemmas.Numbering.{one_written, all_written}
use Rattle.pf_convert.proofs.conversion.json.push_faults.Goals as goal

pub loop-place-preserved : goal.loop-place-preserved
loop-place-preserved c =
    one_written (fault_item c.args.file.now c.args.arrivals c.args.quantum) c.args.faults.now c.loop-place.place c.loop-place.place _ c.loop-place.text.items
    c.push_fault.new.text.items (c.args.text.now.items ++ numbered (fault_item c.args.file.now c.args.arrivals c.args.quantum) 0 c.args.faults.now) c.loop-place-test.true
    (c.in_ok-push_fault.ensures) c.loop-place.invariant

pub returns : goal.returns
returns c =
    all_written (fault_item c.args.file.now c.args.arrivals c.args.quantum) c.args.faults.now c.loop-place.place c.loop-place.place c.loop-place.text.items
    (c.args.text.now.items ++ numbered (fault_item c.args.file.now c.args.arrivals c.args.quantum) 0 c.args.faults.now)
    c.loop-place-test.false c.loop-place.invariant
