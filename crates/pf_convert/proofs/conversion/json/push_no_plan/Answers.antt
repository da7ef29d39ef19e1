use Rattle.std.proofs.Common.{[], ◌∷◌, codes, decimal}
use Rattle.std.proofs.lemmas.Result.{on_ok_weaker}
use Rattle.pf_lemmas.proofs.Lists.{three_written}
use Rattle.pf_convert.specs.Conversion.Json.{fault_item, no_plan_json}
use Rattle.pf_convert.specs.List.Parts.{joined}
use Rattle.pf_convert.specs.Conversion.Script.{numbered}
use Rattle.pf_convert.proofs.conversion.json.push_no_plan.Goals as goal

pub returns : goal.returns
unfolding no_plan_json
returns c =
    on_ok_weaker c.push_parts-2.result
    (λ e. three_written c.args.text.now.items (joined (codes "{\"base\":null,\"exact\":null,\"faults\":[" ∷ [])) (numbered (fault_item c.args.file.now c.args.arrivals c.args.quantum) 0 c.args.faults.now)
    (joined (codes "],\"fits\":false,\"load\":null,\"processors\":null,\"quantum\":" ∷ decimal c.args.quantum ∷ codes ",\"tasks\":[]}" ∷ []))
    c.push_parts.new.text.items c.push_faults.new.text.items c.push_parts-2.new.text.items c.in_ok-push_parts.ensures c.in_ok-push_faults.ensures e)
    c.push_parts-2.ensures
