use Rattle.pf_laws.proofs.PromiseLemmas.FitLaws as fits
use Rattle.pf_laws.proofs.promise.fits_keep_lags.Goals as goal

pub returns : goal.returns
returns c = fits.fits_keep_lags
