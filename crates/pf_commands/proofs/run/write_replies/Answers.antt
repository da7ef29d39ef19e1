use Rattle.std.proofs.Common.{◌∙◌}
use Rattle.std.proofs.lemmas.Result.{err_from_is_err_and}
use Rattle.pf_desk.specs.Desk.{Shown}
use Rattle.pf_script.specs.Told.{told}
use Rattle.pf_commands.proofs.Answering.{carried, counts_stopped, ends_counts, ends_past, opens_counts, opens_past, past_stopped, replies_stopped, unopened}
use Rattle.pf_replies.proofs.Asked.{carried_out}
use Rattle.pf_commands.proofs.run.write_replies.Goals as goal

pub returns-in_err-replies-clause-replies : goal.returns-in_err-replies-clause-replies
returns-in_err-replies-clause-replies g c titles refusals =
    let p = err_from_is_err_and c.from_residual.result c.from_residual.ensures.1 in
    rw (p.1, p.2) (unopened c.args.format titles refusals (told c.args.bytes.now) _ _ c.in_err-replies.ensures)

pub returns-in_err-replies-clause-read : goal.returns-in_err-replies-clause-read
returns-in_err-replies-clause-read g c =
    let p = err_from_is_err_and c.from_residual.result c.from_residual.ensures.1 in
    rw (p.1, p.2) (opens_past c.args.format (told c.args.bytes.now) _ c.in_err-replies.ensures)

pub returns-in_err-replies-clause-writes : goal.returns-in_err-replies-clause-writes
returns-in_err-replies-clause-writes g c =
    let p = err_from_is_err_and c.from_residual.result c.from_residual.ensures.1 in
    rw (p.1, p.2) (opens_counts c.args.format (told c.args.bytes.now) _ _ c.in_err-replies.ensures)

pub returns-in_err-write_pieces-clause-replies : goal.returns-in_err-write_pieces-clause-replies
returns-in_err-write_pieces-clause-replies g c titles refusals =
    let p = err_from_is_err_and c.from_residual-in_err-write_pieces.result c.from_residual-in_err-write_pieces.ensures.1 in
    rw (p.1, p.2) (replies_stopped c.args.format titles refusals (told c.args.bytes.now) _ _ _ _ c.in_ok-replies.ensures.0 c.in_err-write_pieces.ensures.err)

pub returns-in_err-write_pieces-clause-read : goal.returns-in_err-write_pieces-clause-read
returns-in_err-write_pieces-clause-read g c =
    let p = err_from_is_err_and c.from_residual-in_err-write_pieces.result c.from_residual-in_err-write_pieces.ensures.1 in
    rw (p.1, p.2) (past_stopped Shown _)

pub returns-in_err-write_pieces-clause-writes : goal.returns-in_err-write_pieces-clause-writes
returns-in_err-write_pieces-clause-writes g c =
    let p = err_from_is_err_and c.from_residual-in_err-write_pieces.result c.from_residual-in_err-write_pieces.ensures.1 in
    rw (p.1, p.2) (counts_stopped (Unit {0}) Shown _ _ _ c.in_err-write_pieces.ensures.count)

pub returns-clause-replies : goal.returns-clause-replies
returns-clause-replies g c titles refusals =
    carried c.args.format titles refusals (told c.args.bytes.now) c.finish.result _ _ _ _ c.in_ok-replies.ensures.0
    (c.in_ok-write_pieces.ensures.kept ∙ c.in_ok-replies.ensures.1) c.in_ok-write_pieces.ensures.ok c.finish.ensures

pub returns-clause-read : goal.returns-clause-read
returns-clause-read g c = ends_past _ c.finish.result c.finish.ensures

pub returns-clause-writes : goal.returns-clause-writes
returns-clause-writes g c = ends_counts _ c.finish.result _ _ c.in_ok-write_pieces.ensures.count c.finish.ensures

pub returns-clause-carried : goal.returns-clause-carried
returns-clause-carried g c =
    carried_out (told c.args.bytes.now) _ c.finish.result (c.in_ok-write_pieces.ensures.kept ∙ c.in_ok-replies.ensures.1) c.finish.ensures
