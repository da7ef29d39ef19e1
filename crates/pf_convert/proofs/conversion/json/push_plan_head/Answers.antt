use Rattle.std.proofs.Common.{◌∙◌, ℕ, List, ◌++◌, [], ◌∷◌, codes, decimal, ap}
use Rattle.std.proofs.lemmas.Result.{on_ok_weaker}
use Rattle.pf_convert.specs.Conversion.Json.{truth}
use Rattle.pf_convert.specs.List.Parts.{joined}
use Rattle.pf_convert.proofs.conversion.json.push_plan_head.Goals as goal

pub returns : goal.returns
returns c =
    let p = c.args.plan.now in
    let told = λ (exact fits : List ℕ).
    joined (codes "{\"base\":" ∷ decimal p.base ∷ codes ",\"exact\":" ∷ exact ∷ codes ",\"faults\":[],\"fits\":" ∷ fits ∷ codes ",\"load\":" ∷ decimal p.load
    ∷ codes ",\"processors\":" ∷ decimal c.args.needed ∷ codes ",\"quantum\":" ∷ decimal c.args.quantum ∷ codes ",\"tasks\":[" ∷ []) in
    on_ok_weaker c.push_parts.result
    (λ e.
    e ∙ ap (λ w. c.args.text.now.items ++ told w c.fits_word.result.now) c.truth.ensures
    ∙ ap (λ w. c.args.text.now.items ++ told (truth p.exact) w) c.fits_word.ensures)
    c.push_parts.ensures
