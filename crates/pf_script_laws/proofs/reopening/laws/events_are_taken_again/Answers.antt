use Rattle.pf_script_laws.proofs.ReopeningLemmas.Taken.{events_are_taken_again}
use Rattle.pf_script_laws.proofs.reopening.laws.events_are_taken_again.Goals as goal

pub returns : goal.returns
returns c = events_are_taken_again
