use Rattle.std.proofs.Common.{◌++◌, ◌∙◌, ap, codes}
use Rattle.std.specs.Fmt.{decimal}
use Rattle.pf_report.proofs.Replying.{ok_retold, spaced_behind}
use Rattle.pf_report.proofs.reply.push_would_deny.Goals as goal

pub returns : goal.returns
returns c =
    let text = c.in_ok-extend_from_slice-2.ensures.items
    ∙ ap (λ t. t ++ codes " ") (c.in_ok-push_number.ensures.ok ∙ ap (λ t. t ++ decimal c.args.id) c.in_ok-extend_from_slice.ensures.items) in
    ok_retold c.push_code.result c.push_code.new.text.items _ _
    ((λ i. text i ++ (decimal (c.code.ensures i) ++ (codes " " ++ c.name.ensures i))) ∙ spaced_behind c.args.text.now.items (codes "31 WouldDeny ") (decimal c.args.id) _ _)
    c.push_code.ensures
