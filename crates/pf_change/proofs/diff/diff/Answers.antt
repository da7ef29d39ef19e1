use Rattle.pf_change.specs.Change.{change_meaning}
use Rattle.pf_change.proofs.Ends.{stops_unwritten}
use Rattle.pf_change.proofs.diff.diff.Goals as goal

pub returns-in-Err-clause-unwritten : goal.returns-in-Err-clause-unwritten
returns-in-Err-clause-unwritten c = stops_unwritten (change_meaning c.args.options c.args.since c.args.script.now) c.in-Err.fault c.in-Err.ensures.stopped
