use Rattle.pf_script_laws.proofs.ReopeningLemmas.Examples.{worked_renumbering}
use Rattle.pf_script_laws.proofs.reopening.laws.worked_example_is_numbered_anew.Goals as goal

pub returns : goal.returns
returns c = worked_renumbering
