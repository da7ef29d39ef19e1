use Rattle.std.proofs.Common.{sym, ◌∙◌}
use Rattle.pf_notes.proofs.Joining.{joined_left, joined_stays}
use Rattle.pf_notes.proofs.inside.joined_at.Goals as goal

pub returns-in-Some : goal.returns-in-Some
returns-in-Some c =
    joined_left c.args.settings.base c.args.task c.args.standing.now c.in-Some.field-0 (sym c.leave_of.ensures ∙ c.in-Some.is)

pub returns-in-None : goal.returns-in-None
returns-in-None c =
    c.brought_by.ensures ∙ joined_stays c.args.settings.base c.args.task c.args.standing.now (sym c.leave_of.ensures ∙ c.in-None.is)
