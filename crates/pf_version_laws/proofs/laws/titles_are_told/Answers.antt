use Rattle.pf_version_laws.proofs.Told.{titles_are_told}
use Rattle.pf_version_laws.proofs.laws.titles_are_told.Goals as goal

pub returns : goal.returns
returns c = titles_are_told
