use Rattle.std.proofs.Common.{◌≡◌, ◌∙◌, length, ap, ap₂, arith}
use Rattle.std.proofs.lemmas.Result.{IfOk-weaker}
use Rattle.pf_chart.specs.Chart.{task_chart_text_of, task_head_text, task_head_with, task_text_with, text_between}
use Rattle.pf_chart.specs.Shown.{shown_of}
use Rattle.pf_chart.proofs.chart.task_chart_pieces.Goals as goal

pub returns : goal.returns
unfolding task_chart_text_of
returns c =
    let seen = c.args.snapshot.now in
    let titles = c.args.titles.now in
    let slot = titles.slot in
    let tasks = c.args.tasks.now in
    let from = c.args.from in
    let to = c.args.to in
    let listed = c.in_ok-listed.listed.items in
    let shown = c.shown_of-shown.result.items in
    let many : c.len-many.result ≡ length shown = omega (arith, c.len-many.ensures) in
    let count : c.len-count.result ≡ length listed = omega (arith, c.len-count.ensures) in
    let head : c.in_ok-head.head.items ≡ task_head_text seen slot (length shown) (length listed) from to =
    c.in_ok-head.ensures
    ∙ ap₂ (λ s n. task_head_with s slot c.len-many.result c.len-count.result n from to) c.settings-settings.ensures c.now-now.ensures.value
    ∙ ap₂ (λ m k. task_head_text seen slot m k from to) many count in
    IfOk-weaker c.pieces_between.result _ _
    (λ pieces h. h ∙ ap₂ (λ h l. text_between seen titles from to h l shown) head c.in_ok-legend.ensures
    ∙ ap (task_text_with seen titles from to listed) c.shown_of-shown.ensures
    ∙ ap (λ ls. task_text_with seen titles from to ls (shown_of tasks ls)) c.in_ok-listed.ensures)
    c.pieces_between.ensures
