use Rattle.std.proofs.Common.{◌∙◌, ◌++◌, ◌∷◌, [], codes, ap}
use Rattle.std.specs.Fmt.{decimal}
use Rattle.std.proofs.lemmas.Result.{on_ok_weaker}
use Rattle.pf_chart.proofs.Lines.{three_words}
use Rattle.pf_chart.proofs.frame.push_settings.Goals as goal

pub returns : goal.returns
returns c =
    let old = c.args.text.now.items in
    let m = decimal c.args.processors in
    let base = decimal c.args.base in
    let cap = decimal c.args.cap in
    on_ok_weaker c.push_number-3.result (λ is.
    is ∙ ap (λ t. t ++ (codes "; cap " ++ cap)) (c.in_ok-push_number-2.ensures ∙ ap (λ t. t ++ (codes "; base " ++ base)) c.in_ok-push_number.ensures)
    ∙ three_words old (codes "processors ") m (codes "; base ") base (codes "; cap ") cap)
    c.push_number-3.ensures
