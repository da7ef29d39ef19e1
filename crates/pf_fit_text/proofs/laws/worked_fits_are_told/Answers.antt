use Rattle.pf_fit_text.proofs.Examples.{worked_fits}
use Rattle.pf_fit_text.proofs.laws.worked_fits_are_told.Goals as goal

pub returns : goal.returns
returns c = worked_fits
