use Rattle.pf_script_laws.proofs.ReopeningLemmas.Rerun.{schedule_is_written_again}
use Rattle.pf_script_laws.proofs.reopening.laws.schedule_is_written_again.Goals as goal

pub returns : goal.returns
returns c = schedule_is_written_again
