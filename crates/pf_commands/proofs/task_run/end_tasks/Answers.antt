use Rattle.pf_vocabulary.specs.declared.fault.ending.Ending.{Ending}
use Rattle.pf_commands.proofs.Answering.{counts_as}
use Rattle.pf_commands.proofs.task_run.end_tasks.Goals as goal

pub returns-in-Err-clause-writes : goal.returns-in-Err-clause-writes
returns-in-Err-clause-writes g c = counts_as (Unit {0}) Ending _ _ _ c.in-Err.ensures.writes
