use Rattle.pf_why_text.proofs.Examples.{worked_slots}
use Rattle.pf_why_text.proofs.laws.worked_slots_are_told.Goals as goal

pub returns : goal.returns
returns c = worked_slots
