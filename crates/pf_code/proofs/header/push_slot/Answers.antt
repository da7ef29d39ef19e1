use Rattle.std.proofs.Common.{◌∙◌, ℕ, ◌++◌, [], ◌∷◌, codes, decimal, ap, sym}
use Rattle.std.proofs.lemmas.Result.{on_ok_weaker}
use Rattle.pf_code.specs.Header.{slot_line}
use Rattle.pf_code.specs.Parts.{joined}
use Rattle.pf_code.proofs.header.push_slot.Goals as goal

pub returns-in-Some : goal.returns-in-Some
returns-in-Some c =
    let old = c.args.text.now.items in
    let capitals = c.args.capitals.now in
    let line = λ (n : ℕ). joined (codes "#define " ∷ capitals ∷ codes "_SLOT_NS UINT64_C(" ∷ decimal n ∷ codes ")\n" ∷ []) in
    on_ok_weaker c.push_parts.result
    (λ e. e ∙ ap (λ n. old ++ line n) c.nanoseconds_of.ensures.value ∙ ap (λ s. old ++ slot_line capitals s) (sym c.in-Some.is))
    c.push_parts.ensures
