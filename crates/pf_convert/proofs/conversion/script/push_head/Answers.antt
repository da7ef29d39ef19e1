use Rattle.std.proofs.Common.{◌∙◌, ◌++◌, ◌*◌, [], ◌∷◌, codes, decimal, ap}
use Rattle.std.proofs.lemmas.Result.{on_ok_weaker}
use Rattle.pf_convert.specs.List.Parts.{joined}
use Rattle.pf_convert.specs.Conversion.Script.{head_lines}
use Rattle.pf_convert.proofs.conversion.script.push_head.Goals as goal

pub returns : goal.returns
returns c =
    let p = c.args.processors in
    let b = c.args.base in
    on_ok_weaker c.push_parts.result
    (λ e.
    e
    ∙ ap (λ w. c.args.text.now.items ++ joined (codes "plan,1\nsettings," ∷ decimal p ∷ codes "," ∷ decimal b ∷ codes "," ∷ decimal (p * b) ∷ codes ",64\nslot,"
    ∷ decimal c.slot_of-length.result.0 ∷ codes "," ∷ w ∷ codes "\n" ∷ [])) c.word.ensures
    ∙ ap (λ s. c.args.text.now.items ++ head_lines p b s) c.slot_of-length.ensures)
    c.push_parts.ensures
