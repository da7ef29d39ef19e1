use Rattle.std.proofs.Common.{◌∙◌, ℕ, ◌++◌, [], ◌∷◌, codes, decimal, ap}
use Rattle.std.proofs.lemmas.Result.{on_ok_weaker}
use Rattle.pf_code.specs.Parts.{joined}
use Rattle.pf_code.proofs.header.push_title.Goals as goal

pub returns : goal.returns
returns c =
    let o = c.args.outline in
    let line = λ (m : ℕ).
    joined (codes "/* PD2 schedule, slots " ∷ decimal o.from ∷ codes " to " ∷ decimal o.to ∷ codes " of " ∷ decimal o.now ∷ codes ", " ∷ decimal m
    ∷ codes " processors, base " ∷ decimal o.base ∷ codes ". A row is a slot, a column a processor; 0 is nobody. */\n" ∷ []) in
    on_ok_weaker c.push_parts.result (λ e. e ∙ ap (λ m. c.args.text.now.items ++ line m) c.from.ensures) c.push_parts.ensures
