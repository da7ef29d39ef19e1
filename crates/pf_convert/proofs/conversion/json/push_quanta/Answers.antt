use Rattle.std.proofs.Common.{◌++◌, ◌∙◌, ap}
use Rattle.pf_convert.specs.Conversion.Json.{quantum_item}
use Rattle.pf_convert.specs.Conversion.Script.{numbered}
use Rattle.pf_convert.proofs.ConversionLemmas.Numbering.{one_written, all_written}
use Rattle.pf_convert.proofs.conversion.json.push_quanta.Goals as goal

pub loop-place-preserved : goal.loop-place-preserved
loop-place-preserved c =
    one_written (quantum_item c.args.file.now c.args.series) c.args.all.now c.loop-place.place c.loop-place.place c.index-all-place.result c.loop-place.text.items
    c.push_quantum.new.text.items (c.args.text.now.items ++ numbered (quantum_item c.args.file.now c.args.series) 0 c.args.all.now) c.loop-place-test.true
    (c.in_ok-push_quantum.ensures ∙ ap (λ p. c.loop-place.text.items ++ quantum_item c.args.file.now c.args.series c.loop-place.place p) c.index-all-place.is) c.loop-place.invariant

pub returns : goal.returns
returns c =
    all_written (quantum_item c.args.file.now c.args.series) c.args.all.now c.loop-place.place c.loop-place.place c.loop-place.text.items
    (c.args.text.now.items ++ numbered (quantum_item c.args.file.now c.args.series) 0 c.args.all.now) c.loop-place-test.false c.loop-place.invariant
