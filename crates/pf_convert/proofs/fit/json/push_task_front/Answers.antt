use Rattle.std.proofs.Common.{◌∙◌, ℕ, List, ◌++◌, [], ◌∷◌, codes, decimal, ap}
use Rattle.std.proofs.lemmas.Result.{on_ok_weaker}
use Rattle.pf_convert.specs.Conversion.Json.{comma}
use Rattle.pf_convert.specs.List.Parts.{joined}
use Rattle.pf_convert.proofs.fit.json.push_task_front.Goals as goal

pub returns : goal.returns
returns c =
    let t = c.args.task in
    let old = c.args.text.now.items in
    let told = λ (w : List ℕ) (a : ℕ).
    joined (w ∷ codes "{\"arrival\":" ∷ decimal a ∷ codes ",\"cost\":" ∷ decimal t.slots.cost ∷ codes ",\"early\":" ∷ decimal t.slots.early
    ∷ codes ",\"join\":" ∷ decimal t.slots.join ∷ []) in
    on_ok_weaker c.push_parts.result
    (λ e. e ∙ ap (λ w. old ++ told w c.any_response.result) c.comma.ensures ∙ ap (λ a. old ++ told (comma c.args.place) a) c.any_response.ensures)
    c.push_parts.ensures
