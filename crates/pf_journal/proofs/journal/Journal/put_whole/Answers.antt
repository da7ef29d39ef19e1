use Rattle.pf_journal.proofs.Resting.{kept_opens}
use Rattle.pf_journal.proofs.journal.Journal.put_whole.Goals as goal

pub returns-in_err-bytes-clause-opens : goal.returns-in_err-bytes-clause-opens
returns-in_err-bytes-clause-opens g c mixing clean left may = kept_opens _ _ _ _ c.args.self.now c.requires.kept clean left may
