use Rattle.pf_session_laws.proofs.Shown.{sessions_show}
use Rattle.pf_session_laws.proofs.laws.sessions_show_their_scripts.Goals as goal

pub returns : goal.returns
returns c = sessions_show c.scripts_are_retold.ensures
