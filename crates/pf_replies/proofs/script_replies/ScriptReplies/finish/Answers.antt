use Rattle.std.proofs.lemmas.Result.{err_from_is_err_and}
use Rattle.pf_replies.proofs.script_replies.ScriptReplies.finish.Goals as goal

pub returns-in_err-carry_on : goal.returns-in_err-carry_on
returns-in_err-carry_on c =
    let p = err_from_is_err_and c.from_residual.result c.from_residual.ensures.1 in
    rw (p.1, p.2) tt
