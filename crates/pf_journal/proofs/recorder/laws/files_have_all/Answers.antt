use Rattle.pf_journal.proofs.RecorderLemmas.Told.{told_all}
use Rattle.pf_journal.proofs.recorder.laws.files_have_all.Goals as goal

pub returns : goal.returns
returns g c = told_all _ _ _ _ _ _ _ _ _ _
