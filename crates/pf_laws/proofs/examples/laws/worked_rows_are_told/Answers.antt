use Rattle.pf_laws.proofs.ExamplesLemmas.Rows.{worked_rows}
use Rattle.pf_laws.proofs.examples.laws.worked_rows_are_told.Goals as goal

pub returns : goal.returns
returns c = worked_rows
