use Rattle.pf_session_laws.proofs.Files.{journal_again}
use Rattle.pf_session_laws.proofs.laws.journals_begin_again.Goals as goal

pub returns : goal.returns
returns c = journal_again
