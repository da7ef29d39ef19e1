use Rattle.std.proofs.Common.{◌++◌}
use Rattle.pf_convert.specs.Fit.Json.{outcome_item}
use Rattle.pf_convert.specs.Conversion.Script.{numbered}
use Rattle.pf_convert.proofs.ConversionLemmas.Numbering.{one_written, all_written}
use Rattle.pf_convert.proofs.fit.json_tail.push_outcomes.Goals as goal

pub loop-place-preserved : goal.loop-place-preserved
loop-place-preserved c =
    one_written (outcome_item c.args.processors) c.args.outcomes.now c.loop-place.place c.loop-place.place _ c.loop-place.text.items
    c.push_outcome.new.text.items (c.args.text.now.items ++ numbered (outcome_item c.args.processors) 0 c.args.outcomes.now) c.loop-place-test.true
    (c.in_ok-push_outcome.ensures) c.loop-place.invariant

pub returns : goal.returns
returns c =
    all_written (outcome_item c.args.processors) c.args.outcomes.now c.loop-place.place c.loop-place.place c.loop-place.text.items
    (c.args.text.now.items ++ numbered (outcome_item c.args.processors) 0 c.args.outcomes.now) c.loop-place-test.false c.loop-place.invariant
