use Rattle.std.proofs.Common.{◌∙◌, ◌++◌, [], ◌∷◌, sym, ap}
use Rattle.std.specs.BTreeMap.{get_by_text}
use Rattle.pf_convert.specs.List.Reading.{line_of, line_with}
use Rattle.pf_convert.proofs.ListLemmas.Named.{task_pushed}
use Rattle.pf_convert.proofs.list.tasks.Tasks.push.Goals as goal

pub invariant_of-self-2 : goal.invariant_of-self-2
invariant_of-self-2 c = λ name.
    c.in_ok-note_line.ensures.noted name
    ∙ ap (λ text. line_with (get_by_text c.self.inside.lines name) text c.args.task.line name) c.as_str.ensures
    ∙ ap (λ first. line_with first c.args.task.name c.args.task.line name) (c.self.invariant name)
    ∙ sym (task_pushed c.self.inside.tasks.items c.args.task name)
    ∙ sym (ap (λ tasks. line_of tasks name) (c.push_reserved.ensures.items ∙ ap (λ items. items ++ c.args.task ∷ []) c.reserve.ensures.items))
