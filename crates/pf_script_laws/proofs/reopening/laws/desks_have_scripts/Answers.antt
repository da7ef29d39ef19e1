use Rattle.pf_script_laws.proofs.ReopeningLemmas.Desks.{desks_have_scripts}
use Rattle.pf_script_laws.proofs.reopening.laws.desks_have_scripts.Goals as goal

pub returns : goal.returns
returns c = desks_have_scripts
