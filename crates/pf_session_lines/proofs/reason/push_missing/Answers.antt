use Rattle.std.proofs.Common.{◌++◌, ◌∙◌, ap}
use Rattle.pf_session_lines.proofs.Added.{added_to}
use Rattle.pf_session_lines.specs.Words.{first_after}
use Rattle.pf_session_lines.proofs.reason.push_missing.Goals as goal

pub returns : goal.returns
returns c =
    added_to c.push_with_form.result _ _ _ _ _
    (c.in_ok-extend_from_slice.ensures.items
    ∙ ap (λ x. c.args.text.now.items ++ x) (c.as_bytes.ensures.value ∙ c.first_after.ensures ∙ ap first_after c.at.ensures))
    c.push_with_form.ensures
