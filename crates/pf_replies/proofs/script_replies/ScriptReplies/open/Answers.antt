use Rattle.pf_replies.proofs.Carrying.{opened_replies}
use Rattle.pf_replies.proofs.script_replies.ScriptReplies.open.Goals as goal

pub returns : goal.returns
returns c =
    opened_replies c.args.format _ c.in_ok-opening.field-0.opening c.in_ok-opening.field-0.lines c.new.result c.in_ok-open.field-0
    c.in_ok-opening.ensures.1 c.new.ensures c.in_ok-open.ensures
