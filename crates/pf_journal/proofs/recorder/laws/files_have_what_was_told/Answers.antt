use Rattle.pf_journal.proofs.RecorderLemmas.Told.{told}
use Rattle.pf_journal.proofs.recorder.laws.files_have_what_was_told.Goals as goal

pub returns : goal.returns
returns g c = told _ _ _ _ _ _ _ _ _ _
