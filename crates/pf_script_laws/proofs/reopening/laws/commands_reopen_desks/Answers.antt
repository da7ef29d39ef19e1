use Rattle.pf_script_laws.proofs.ReopeningLemmas.Whole.{commands_reopen_desks, desks_can_be_reopened}
use Rattle.pf_script_laws.proofs.reopening.laws.commands_reopen_desks.Goals as goal

pub returns : goal.returns
returns c = record { law = commands_reopen_desks; some = desks_can_be_reopened }
