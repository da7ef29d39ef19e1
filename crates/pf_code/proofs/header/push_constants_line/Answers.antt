use Rattle.std.proofs.Common.{◌∙◌, ℕ, ◌-◌, ◌++◌, [], ◌∷◌, codes, decimal, ap}
use Rattle.std.specs.Option.{unwrap_or}
use Rattle.std.proofs.lemmas.Result.{on_ok_weaker}
use Rattle.pf_code.specs.Parts.{joined}
use Rattle.pf_code.proofs.header.push_constants_line.Goals as goal

pub returns : goal.returns
returns c =
    let o = c.args.outline in
    let old = c.args.text.now.items in
    let capitals = c.args.capitals.now in
    let line = λ (m slots span : ℕ).
    joined (codes "enum { " ∷ capitals ∷ codes "_PROCESSORS = " ∷ decimal m ∷ codes ", " ∷ capitals ∷ codes "_FROM = " ∷ decimal o.from ∷ codes ", "
    ∷ capitals ∷ codes "_SLOTS = " ∷ decimal slots ∷ codes ", " ∷ capitals ∷ codes "_REPEATS = " ∷ decimal span ∷ codes " };\n" ∷ []) in
    on_ok_weaker c.push_parts.result
    (λ e.
    e ∙ ap (λ m. old ++ line m c.slots-slots.result c.unwrap_or-span.result) c.from.ensures
    ∙ ap (λ n. old ++ line o.processors n c.unwrap_or-span.result) c.slots-slots.ensures
    ∙ ap (λ s. old ++ line o.processors (o.to - o.from) s) (c.unwrap_or-span.ensures ∙ ap (λ s. unwrap_or s 0) c.known_span.ensures))
    c.push_parts.ensures
