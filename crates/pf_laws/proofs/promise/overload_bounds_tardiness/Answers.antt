use Rattle.pf_laws.proofs.PromiseLemmas.FitLaws as fits
use Rattle.pf_laws.proofs.promise.overload_bounds_tardiness.Goals as goal

pub returns : goal.returns
returns c = fits.overload_bounds_tardiness
