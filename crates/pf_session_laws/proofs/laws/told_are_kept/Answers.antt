use Rattle.pf_session_laws.proofs.Sat.{told_kept}
use Rattle.pf_session_laws.proofs.laws.told_are_kept.Goals as goal

pub returns : goal.returns
returns g c = told_kept _ _ _ _ _ _ _ _ _
