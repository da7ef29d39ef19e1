use Rattle.std.proofs.Common.{ap, ◌∙◌}
use Rattle.pf_desk.specs.History.{last_state}
use Rattle.pf_desk_board.specs.Histories.{entries_of, quanta_of_reply}
use Rattle.pf_desk_board.proofs.Rising.{edits_issue_none}
use Rattle.pf_shared_desk.proofs.desk_core.DeskCore.edit.Goals as goal

pub returns-in-Ok-clause-core : goal.returns-in-Ok-clause-core
returns-in-Ok-clause-core c =
    let kept = c.in-Ok.ensures.kept in let entered = c.in-Ok.ensures.entered in record {
      is_kept = kept.0;
      none_left = kept.1 ∙ (ap quanta_of_reply entered.answer ∙ edits_issue_none (last_state c.args.board.now.terms (entries_of entered.before)) c.args.change c.args.strict);
    }
