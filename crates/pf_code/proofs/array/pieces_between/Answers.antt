use Rattle.std.proofs.Common.{◌∙◌, ◌-◌, ◌==◌, ◌++◌, [], cond, sym, ap₂}
use Rattle.pf_code.specs.Array.{header_text, row_text, rows_between, table_end}
use Rattle.pf_code.specs.Outline.{outline_of}
use Rattle.pf_code.specs.Repetition.{admitted_in}
use Rattle.pf_code.specs.declared.outline.Outline.{Outline}
use Rattle.pf_code.proofs.Written.{rows_stand}
use Rattle.pf_code.proofs.array.pieces_between.Goals as goal

pub returns : goal.returns
returns c =
    let seen = c.args.snapshot.now in
    let titles = c.args.titles.now in
    let symbol = c.args.symbol.now in
    let from = c.args.from in
    let to = c.args.to in
    let m = seen.state.plan.settings.processors in
    let head =
    c.new.ensures ∙ c.in_ok-head.ensures
    ∙ ap₂ (λ (o : Outline) js. header_text symbol o titles.names js ++ cond (o.to - o.from == 0) (row_text o.processors []) [])
    c.in_ok-outline.ensures (c.deref-2.ensures.value ∙ c.in_ok-tasks.ensures.tasks) in
    let behind = c.new-3.ensures ∙ ap₂ (λ x y. x ++ y) c.of-rows.ensures.text (c.new-2.ensures ∙ c.in_ok-end.ensures.items) in
    c.new-4.ensures ∙ ap₂ (λ x y. x ++ y) head behind
    ∙ rows_stand m (to - from) (header_text symbol (outline_of seen titles from to) titles.names (admitted_in seen)) table_end (rows_between seen from to)
    (sym c.of-rows.ensures.long)
