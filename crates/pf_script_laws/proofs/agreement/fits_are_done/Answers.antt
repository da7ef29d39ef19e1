use Rattle.pf_script_laws.proofs.AgreementLemmas.Counted.{fits_are_done}
use Rattle.pf_script_laws.proofs.agreement.fits_are_done.Goals as goal

pub returns : goal.returns
returns c = fits_are_done
