use Rattle.pf_script_laws.proofs.ReopeningLemmas.Again.{scripts_are_read_again}
use Rattle.pf_script_laws.proofs.reopening.laws.scripts_are_read_again.Goals as goal

pub returns : goal.returns
returns c = scripts_are_read_again
