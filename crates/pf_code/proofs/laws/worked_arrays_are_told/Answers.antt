use Rattle.pf_code.proofs.Examples.{worked_arrays}
use Rattle.pf_code.proofs.laws.worked_arrays_are_told.Goals as goal

pub returns : goal.returns
returns c = worked_arrays
