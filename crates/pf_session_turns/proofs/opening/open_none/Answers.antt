use Rattle.std.proofs.Common.{[]}
use Rattle.pf_session_turns.proofs.Stops.{stopped_plain}
use Rattle.pf_session_turns.proofs.opening.open_none.Goals as goal

pub returns : goal.returns
returns c = stopped_plain c.args.session [] _ c.in-Err.fault c.in-Err.ensures.stopped
