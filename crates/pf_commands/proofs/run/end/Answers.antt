use Rattle.pf_desk.specs.Desk.{Shown}
use Rattle.pf_commands.proofs.Answering.{counts_as, past_as}
use Rattle.pf_commands.proofs.run.end.Goals as goal

pub returns-in-Err-clause-read : goal.returns-in-Err-clause-read
returns-in-Err-clause-read g c = past_as (Unit {0}) Shown _ c.in-Err.ensures.read

pub returns-in-Err-clause-writes : goal.returns-in-Err-clause-writes
returns-in-Err-clause-writes g c = counts_as (Unit {0}) Shown _ _ _ c.in-Err.ensures.writes
