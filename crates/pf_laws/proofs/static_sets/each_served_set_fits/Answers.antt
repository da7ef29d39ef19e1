use Rattle.pf_laws.proofs.StaticSetsLemmas.Fits as fits
use Rattle.pf_laws.proofs.static_sets.each_served_set_fits.Goals as goal

pub returns : goal.returns
returns c = fits.each_served_fits
