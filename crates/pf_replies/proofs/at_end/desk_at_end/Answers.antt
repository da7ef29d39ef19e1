use Rattle.std.proofs.lemmas.Result.{err_from_is_err_and}
use Rattle.pf_vocabulary.specs.declared.options.format.Format.TheVariants.{Report}
use Rattle.pf_script.specs.Told.{told}
use Rattle.pf_replies.specs.Carried.{outcome_left}
use Rattle.pf_replies.specs.Course.{outcome_told}
use Rattle.pf_replies.proofs.AtEnd.{ends_left, ends_unwritten, stops_unwritten, unopened_stops}
use Rattle.pf_replies.proofs.at_end.desk_at_end.Goals as goal

pub returns-in_err-replies-clause-end : goal.returns-in_err-replies-clause-end
returns-in_err-replies-clause-end c =
    let p = err_from_is_err_and c.from_residual.result c.from_residual.ensures.1 in
    rw (p.1, p.2) (unopened_stops Report (told c.args.script.now) _ c.in_err-replies.ensures)

pub returns-in_err-replies-clause-unwritten : goal.returns-in_err-replies-clause-unwritten
returns-in_err-replies-clause-unwritten c =
    let p = err_from_is_err_and c.from_residual.result c.from_residual.ensures.1 in
    rw (p.1, p.2) (stops_unwritten (outcome_told (told c.args.script.now)) _ (unopened_stops Report (told c.args.script.now) _ c.in_err-replies.ensures))

pub returns-clause-end : goal.returns-clause-end
returns-clause-end c =
    ends_left (outcome_left c.in_ok-replies.replies) (outcome_told (told c.args.script.now)) c.finish.result c.in_ok-replies.ensures.1 c.finish.ensures

pub returns-clause-unwritten : goal.returns-clause-unwritten
returns-clause-unwritten c = ends_unwritten (outcome_left c.in_ok-replies.replies) c.finish.result c.finish.ensures
