use Rattle.std.proofs.Common.{sym, ◌∙◌}
use Rattle.pf_tally.proofs.Missing.{only_leaves}
use Rattle.pf_tally.proofs.late.last_due.Goals as goal

pub unreachable-requires : goal.unreachable-requires
unreachable-requires c = only_leaves c.task.inside.task c.args.events.now c.in-Some.numbered (sym c.in-Some.is ∙ c.leave_of.ensures) c.in_default.not-Leave
