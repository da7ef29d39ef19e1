use Rattle.std.proofs.Common.{◌∙◌, ℕ, ◌+◌, ◌*◌, List, ◌++◌, [], ◌∷◌, codes, decimal, ap}
use Rattle.std.proofs.lemmas.Result.{on_ok_weaker}
use Rattle.pf_convert.specs.List.Parts.{joined}
use Rattle.pf_convert.proofs.conversion.json.push_slotted.Goals as goal

pub returns : goal.returns
returns c =
    let t = c.args.task in
    let old = c.args.text.now.items in
    let told = λ (p q : ℕ) (w : List ℕ).
    joined (w ∷ codes "{\"arrival\":" ∷ decimal ((p + 1) * q) ∷ codes ",\"cost\":" ∷ decimal t.cost ∷ codes ",\"early\":" ∷ decimal t.early
    ∷ codes ",\"join\":" ∷ decimal t.join ∷ codes ",\"period\":" ∷ decimal t.period ∷ codes ",\"response\":" ∷ decimal (p * q) ∷ codes "}" ∷ []) in
    on_ok_weaker c.push_parts.result
    (λ e.
    e ∙ ap (λ p. old ++ told p c.from-length.result c.comma.result.now) c.from-period.ensures
    ∙ ap (λ q. old ++ told t.period q c.comma.result.now) c.from-length.ensures
    ∙ ap (λ w. old ++ told t.period c.args.quantum w) c.comma.ensures)
    c.push_parts.ensures
