use Rattle.pf_commands.proofs.ScriptsWorked.{worked_scripts}
use Rattle.pf_commands.proofs.laws.worked_scripts_are_their_text.Goals as goal

pub returns : goal.returns
returns c = worked_scripts
