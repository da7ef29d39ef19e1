use Rattle.std.proofs.Common.{[], ◌∷◌, codes}
use Rattle.std.proofs.lemmas.Result.{on_ok_weaker}
use Rattle.pf_lemmas.proofs.Lists.{two_written}
use Rattle.pf_convert.specs.Conversion.Script.{numbered}
use Rattle.pf_convert.specs.Fit.Json.{outcome_item}
use Rattle.pf_convert.specs.List.Parts.{joined}
use Rattle.pf_convert.proofs.fit.json_tail.push_tried.Goals as goal

pub returns : goal.returns
returns c =
    on_ok_weaker c.push_outcomes.result
    (λ e. two_written c.args.text.now.items (joined (codes "],\"tried\":[" ∷ [])) (numbered (outcome_item c.args.processors) 0 c.args.outcomes.now)
    c.push_parts.new.text.items c.push_outcomes.new.text.items c.in_ok-push_parts.ensures e)
    c.push_outcomes.ensures
