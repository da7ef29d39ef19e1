use Rattle.std.proofs.Common.{ℕ, List, [], ◌∷◌, ◌++◌, codes, decimal}
use Rattle.std.proofs.lemmas.Result.{on_ok_weaker}
use Rattle.pf_lemmas.proofs.Lists.{three_written, two_written}
use Rattle.pf_convert.specs.Conversion.Json.{json_head, json_tail, json_text, quantum_item, task_item}
use Rattle.pf_convert.specs.Conversion.Script.{numbered}
use Rattle.pf_convert.specs.List.Parts.{joined}
use Rattle.pf_convert.proofs.conversion.json.push_json.Goals as goal

pub returns : goal.returns
unfolding json_text
returns c =
    let old : List ℕ = c.args.text.now.items in
    let head : List ℕ = json_head c.args.series in
    let quanta : List ℕ = numbered (quantum_item c.args.file.now c.args.series) 0 c.args.all.now in
    let switch : List ℕ = joined (codes "],\"switch\":" ∷ decimal c.args.switch ∷ codes ",\"tasks\":[" ∷ []) in
    let tasks : List ℕ = numbered task_item 0 c.args.tasks.now in
    on_ok_weaker c.push_tail.result
    (λ e.
    two_written old (head ++ quanta ++ switch ++ tasks) (json_tail c.args.series) c.push_tasks.new.text.items c.push_tail.new.text.items
    (two_written old (head ++ quanta ++ switch) tasks c.push_parts.new.text.items c.push_tasks.new.text.items
    (three_written old head quanta switch c.push_head.new.text.items c.push_quanta.new.text.items c.push_parts.new.text.items
    c.in_ok-push_head.ensures c.in_ok-push_quanta.ensures c.in_ok-push_parts.ensures)
    c.in_ok-push_tasks.ensures) e)
    c.push_tail.ensures
