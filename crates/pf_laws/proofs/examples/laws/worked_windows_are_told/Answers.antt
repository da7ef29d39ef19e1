use Rattle.pf_laws.proofs.ExamplesLemmas.Windows.{worked_windows}
use Rattle.pf_laws.proofs.examples.laws.worked_windows_are_told.Goals as goal

pub returns : goal.returns
returns c = worked_windows
