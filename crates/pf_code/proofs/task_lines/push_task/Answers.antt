use Rattle.std.proofs.Common.{◌≡◌, ◌∙◌, ap, drop, ◌+◌, arith}
use Rattle.std.proofs.lemmas.Result.{on_ok_weaker}
use Rattle.std.specs.Fmt.{decimal}
use Rattle.pf_run.specs.Inside.{Joined}
use Rattle.pf_code.specs.Parts.{part_text}
use Rattle.pf_code.specs.Tasks.{comma_before, own_symbol, symbol_of}
use Rattle.pf_code.proofs.Lining.{comma_none, comma_some, line_next, number_chosen, own_chosen, own_is}
use Rattle.pf_code.proofs.task_lines.push_task.Goals as goal
use Rattle.pf_code.proofs.task_lines.push_task.Goals.{then-count_alike-gt1, else-count_alike-gt1, then-at-tasks, else-at-tasks}

pub returns : goal.returns
returns c =
    let names = c.args.names.now in
    let tasks = c.args.tasks.now in
    let at = c.args.at in
    let j = c.index-tasks-at.result in
    let of_j = c.index-tasks-at.is in
    let own : c.as_slice-own.result.now ≡ own_symbol names j =
    c.as_slice-own.ensures.value
    ∙ own_is (λ s. s.items) c.args.symbols.now (own_symbol names) tasks at c.index-symbols-at.result j c.requires.symbols c.requires.within c.index-symbols-at.is of_j in
    let symbol : part_text c.if-count_alike-gt1.symbol ≡ symbol_of names tasks j =
    elim c.if-count_alike-gt1.branch [
      | then-count_alike-gt1 w ↦
          ap part_text w.symbol-is ∙ ap (λ (x : Joined). decimal x.task) c.task.view_is
          ∙ number_chosen names tasks j _ c.as_slice-own.result.now c.count_alike.result c.requires.symbols own c.count_alike.ensures (omega (arith, w.if-count_alike-gt1.true))
      | else-count_alike-gt1 w ↦
          ap part_text w.symbol-is
          ∙ own_chosen names tasks j _ c.as_slice-own.result.now c.count_alike.result c.requires.symbols own c.count_alike.ensures (omega (arith, w.if-count_alike-gt1.false))
    ] in
    let comma : c.if-at-tasks.comma.now ≡ comma_before (drop (at + 1) tasks) =
    elim c.if-at-tasks.branch [
      | then-at-tasks w ↦ ap (λ t. t.now) w.comma-is ∙ comma_some tasks (at + 1) (omega (arith, w.if-at-tasks.true))
      | else-at-tasks w ↦ ap (λ t. t.now) w.comma-is ∙ comma_none tasks (at + 1) (omega (arith, w.if-at-tasks.false))
    ] in
    on_ok_weaker c.push_line.result
    (λ e. line_next c.args.capitals.now c.args.outline names tasks at j c.args.text.now.items c.push_line.new.text.items _ _ c.requires.within of_j symbol comma e)
    c.push_line.ensures
