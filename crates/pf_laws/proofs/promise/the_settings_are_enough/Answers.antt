use Rattle.pf_laws.proofs.PromiseLemmas.Settings as settings
use Rattle.pf_laws.proofs.promise.the_settings_are_enough.Goals as goal

pub returns : goal.returns
returns c = settings.settings_suffice
