use Rattle.pf_change.proofs.Worked.{worked_changes}
use Rattle.pf_change.proofs.laws.worked_changes_are_their_text.Goals as goal

pub returns : goal.returns
returns c = worked_changes
