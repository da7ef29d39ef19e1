use Rattle.pf_laws.proofs.ExamplesLemmas.Admissions.{worked_admission}
use Rattle.pf_laws.proofs.examples.laws.worked_admission_is_told.Goals as goal

pub returns : goal.returns
returns c = worked_admission
