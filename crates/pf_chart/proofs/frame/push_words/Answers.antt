use Rattle.std.proofs.Common.{rules, ◌≡◌, ◌∙◌, ◌++◌, ap, append_assoc}
use Rattle.std.proofs.lemmas.Result.{on_ok_weaker}
use Rattle.pf_chart.specs.Chart.{length_text, range_text, settings_text, settings_with}
use Rattle.pf_chart.proofs.frame.push_words.Goals as goal

pub returns : goal.returns
returns c =
    let old = c.args.text.now.items in
    let range = range_text c.args.now c.args.from c.args.to in
    let settings = settings_text c.args.settings in
    let length = length_text c.args.slot in
    let told : settings_with c.from-processors.result c.get-base.result c.cap.result ≡ settings = search rules in
    on_ok_weaker c.push_length.result (λ is.
    is ∙ ap (λ t. t ++ length)
    (c.in_ok-push_settings.ensures ∙ ap (λ t. t ++ settings_with c.from-processors.result c.get-base.result c.cap.result) c.in_ok-push_range.ensures
    ∙ ap (λ s. (old ++ range) ++ s) told ∙ append_assoc old range settings)
    ∙ append_assoc old (range ++ settings) length)
    c.push_length.ensures
