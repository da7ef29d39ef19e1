use Rattle.pf_script_laws.proofs.ReopeningLemmas.Rerun.{scripts_run_again}
use Rattle.pf_script_laws.proofs.reopening.laws.scripts_run_again.Goals as goal

pub returns : goal.returns
returns c = scripts_run_again
