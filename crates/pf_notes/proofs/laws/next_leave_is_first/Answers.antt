use Rattle.pf_notes.proofs.Leaving.{next_leave}
use Rattle.pf_notes.proofs.laws.next_leave_is_first.Goals as goal

pub returns : goal.returns
returns c = next_leave
