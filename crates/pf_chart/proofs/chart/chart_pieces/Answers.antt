use Rattle.std.proofs.Common.{◌≡◌, ◌∙◌, ap, ap₂}
use Rattle.std.proofs.lemmas.Result.{IfOk-weaker}
use Rattle.pf_chart.specs.Chart.{chart_text_of, head_text, head_with, legend_text, text_between}
use Rattle.pf_chart.proofs.chart.chart_pieces.Goals as goal

pub returns : goal.returns
unfolding chart_text_of
returns c =
    let seen = c.args.snapshot.now in
    let titles = c.args.titles.now in
    let from = c.args.from in
    let to = c.args.to in
    let head : c.in_ok-head.head.items ≡ head_text seen titles.slot from to =
    c.in_ok-head.ensures ∙ ap₂ (λ s n. head_with s titles.slot n from to) c.settings-settings.ensures c.now.ensures.value in
    IfOk-weaker c.pieces_between.result _ _
    (λ pieces h. h ∙ ap₂ (λ h l. text_between seen titles from to h l c.in_ok-listed.listed.items) head c.in_ok-legend.ensures
    ∙ ap (text_between seen titles from to (head_text seen titles.slot from to) legend_text) c.in_ok-listed.ensures)
    c.pieces_between.ensures
