use Rattle.std.proofs.Common.{rules}
use Rattle.pf_report.specs.Tables.{schedule_text}
use Rattle.pf_report.proofs.schedule.schedule_pieces.Goals as goal

pub returns : goal.returns
unfolding schedule_text
returns c = search rules
