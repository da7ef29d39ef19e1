use Rattle.pf_laws.proofs.StaticSetsLemmas.Fits as fits
use Rattle.pf_laws.proofs.static_sets.pd2_serves_what_can_be_served.Goals as goal

pub returns : goal.returns
returns c = fits.served_by_pd2
