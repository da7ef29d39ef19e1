use Rattle.pf_script_laws.proofs.ReopeningLemmas.Anew.{numbers_change_no_run}
use Rattle.pf_script_laws.proofs.reopening.laws.numbers_change_no_run.Goals as goal

pub returns : goal.returns
returns c = numbers_change_no_run
