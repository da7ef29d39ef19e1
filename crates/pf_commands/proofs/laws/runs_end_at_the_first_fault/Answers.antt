use Rattle.pf_commands.proofs.Ends.{runs_end_at_first_fault}
use Rattle.pf_commands.proofs.laws.runs_end_at_the_first_fault.Goals as goal

pub returns : goal.returns
returns c = runs_end_at_first_fault
