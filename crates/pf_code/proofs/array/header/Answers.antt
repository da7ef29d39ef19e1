use Rattle.std.proofs.Common.{◌∙◌, ◌-◌, ◌++◌, [], ap}
use Rattle.pf_code.specs.Array.{declaration_line, header_text}
use Rattle.pf_code.specs.Header.{comments_text, constants_text}
use Rattle.pf_code.specs.Symbol.{capitals}
use Rattle.pf_code.specs.Tasks.{tasks_text, type_line}
use Rattle.pf_code.proofs.Written.{five_written}
use Rattle.pf_code.proofs.array.header.Goals as goal

pub returns : goal.returns
unfolding header_text
returns c =
    let o = c.args.outline in
    let symbol = c.args.symbol.now in
    let names = c.args.names.now in
    let tasks = c.args.tasks.now in
    let in_capitals = capitals symbol in
    five_written [] (comments_text o) (constants_text in_capitals o) (tasks_text in_capitals o names tasks) (type_line symbol tasks)
    (declaration_line symbol (o.to - o.from) o.processors)
    c.push_comments.new.text.items c.push_constants.new.text.items c.push_tasks.new.text.items c.push_type.new.text.items c.push_declaration.new.text.items
    (c.in_ok-push_comments.ensures ∙ ap (λ t. t ++ comments_text o) c.new-text.ensures.items)
    (c.in_ok-push_constants.ensures ∙ ap (λ k. c.push_comments.new.text.items ++ constants_text k o) (c.deref.ensures.value ∙ c.in_ok-capitals.ensures))
    (c.in_ok-push_tasks.ensures ∙ ap (λ k. c.push_constants.new.text.items ++ tasks_text k o names tasks) (c.deref-2.ensures.value ∙ c.in_ok-capitals.ensures))
    c.in_ok-push_type.ensures
    (c.in_ok-push_declaration.ensures ∙ ap (λ n. c.push_type.new.text.items ++ declaration_line symbol n o.processors) c.slots.ensures)
