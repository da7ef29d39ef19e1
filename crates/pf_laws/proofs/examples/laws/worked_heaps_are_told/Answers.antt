use Rattle.pf_laws.proofs.ExamplesLemmas.Heaps.{worked_heaps}
use Rattle.pf_laws.proofs.examples.laws.worked_heaps_are_told.Goals as goal

pub returns : goal.returns
returns c = worked_heaps
