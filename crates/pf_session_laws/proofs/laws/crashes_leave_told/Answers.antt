use Rattle.pf_session_laws.proofs.Sat.{crash_leaves}
use Rattle.pf_session_laws.proofs.laws.crashes_leave_told.Goals as goal

pub returns : goal.returns
returns g c = crash_leaves _ _ _ _ _ _ _ _ _
