use Rattle.pf_version_laws.proofs.Whole.{scripts_are_retold}
use Rattle.pf_version_laws.proofs.laws.scripts_are_retold.Goals as goal

pub returns : goal.returns
returns c = scripts_are_retold
