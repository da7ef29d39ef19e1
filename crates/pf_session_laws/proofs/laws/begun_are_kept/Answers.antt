use Rattle.pf_session_laws.proofs.Begun.{begun_kept}
use Rattle.pf_session_laws.proofs.laws.begun_are_kept.Goals as goal

pub returns : goal.returns
returns g c = begun_kept _ _ _
