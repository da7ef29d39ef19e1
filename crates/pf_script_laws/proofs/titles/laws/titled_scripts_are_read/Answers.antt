use Rattle.pf_script_laws.proofs.TitlesLemmas.Whole.{titled_scripts_are_read}
use Rattle.pf_script_laws.proofs.titles.laws.titled_scripts_are_read.Goals as goal

pub returns : goal.returns
returns c = titled_scripts_are_read
