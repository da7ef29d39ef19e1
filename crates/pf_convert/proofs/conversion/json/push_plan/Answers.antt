use Rattle.std.proofs.Common.{◌∙◌, ◌++◌, [], ◌∷◌, codes, ap}
use Rattle.std.proofs.lemmas.Result.{on_ok_weaker}
use Rattle.pf_lemmas.proofs.Lists.{three_written}
use Rattle.pf_convert.specs.Conversion.Json.{plan_head, plan_json, slots_item}
use Rattle.pf_convert.specs.List.Parts.{joined}
use Rattle.pf_convert.specs.Conversion.Script.{numbered}
use Rattle.pf_convert.proofs.conversion.json.push_plan.Goals as goal

pub returns : goal.returns
unfolding plan_json
returns c =
    on_ok_weaker c.push_parts.result
    (λ e. three_written c.args.text.now.items (plan_head c.args.processors c.args.quantum c.args.needed c.args.plan.now)
    (numbered (slots_item c.args.quantum) 0 c.args.plan.now.tasks.items) (joined (codes "]}" ∷ []))
    c.push_plan_head.new.text.items c.push_slots.new.text.items c.push_parts.new.text.items c.in_ok-push_plan_head.ensures
    (c.in_ok-push_slots.ensures ∙ ap (λ v. c.push_plan_head.new.text.items ++ numbered (slots_item c.args.quantum) 0 v) c.deref.ensures.value) e)
    c.push_parts.ensures
