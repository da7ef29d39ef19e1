use Rattle.pf_script_laws.proofs.ReopeningLemmas.Desks.{scripts_reopen_desks}
use Rattle.pf_script_laws.proofs.reopening.laws.scripts_reopen_desks.Goals as goal

pub returns : goal.returns
returns c = scripts_reopen_desks
