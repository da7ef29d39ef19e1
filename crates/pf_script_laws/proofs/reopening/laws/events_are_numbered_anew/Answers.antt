use Rattle.pf_script_laws.proofs.ReopeningLemmas.Anew.{events_are_numbered_anew}
use Rattle.pf_script_laws.proofs.reopening.laws.events_are_numbered_anew.Goals as goal

pub returns : goal.returns
returns c = events_are_numbered_anew
