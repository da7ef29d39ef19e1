use Rattle.pf_script_laws.proofs.ReopeningLemmas.Titled.{titled_scripts_run_again}
use Rattle.pf_script_laws.proofs.reopening.laws.titled_scripts_run_again.Goals as goal

pub returns : goal.returns
returns c = titled_scripts_run_again
