use Rattle.pf_session_laws.proofs.Opened.{script_again}
use Rattle.pf_session_laws.proofs.laws.scripts_begin_again.Goals as goal

pub returns : goal.returns
returns c = script_again
