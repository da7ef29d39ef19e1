use Rattle.std.proofs.Common.{◌≡◌, ◌++◌, drop}
use Rattle.pf_convert.specs.Conversion.Script.{numbered}
use Rattle.pf_convert.specs.Fit.Json.{outcome_item}
use Rattle.pf_convert.proofs.fit.json_tail.push_outcomes.Given as goal

abbrev pub invariant-loop-place : goal.invariant-loop-place
invariant-loop-place l = l.text.items ++ numbered (outcome_item l.processors) l.place (drop l.place l.outcomes) ≡ l.fn.text.items ++ numbered (outcome_item l.processors) 0 l.outcomes
