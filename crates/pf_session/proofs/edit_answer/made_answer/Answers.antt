use Rattle.std.proofs.Common.{◌++◌, ap, ap₂, ◌∙◌}
use Rattle.pf_answers.specs.Changes.{counts_of, made_text}
use Rattle.pf_answers.specs.SlotsChanged.{slots_changed}
use Rattle.pf_session.proofs.edit_answer.made_answer.Goals as goal

pub returns-clause-text : goal.returns-clause-text
returns-clause-text c =
    c.in_ok-push_made-2.ensures
    ∙ ap (λ t. t ++ made_text c.args.manner c.args.id c.slots_of-slots.result c.in_ok-before.before c.in_ok-after.after) c.new-answer.ensures.items
    ∙ ap₂ (λ a b. made_text c.args.manner c.args.id c.slots_of-slots.result a b) c.in_ok-before.ensures c.in_ok-after.ensures
    ∙ ap (λ s. made_text c.args.manner c.args.id s (counts_of c.args.desk.now.state) (counts_of c.args.snapshot.now.state))
    (c.slots_of-slots.ensures ∙ ap (λ d. slots_changed d.state c.args.change) c.as_desk.ensures)
