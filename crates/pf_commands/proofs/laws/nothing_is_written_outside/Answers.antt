use Rattle.pf_commands.proofs.Outside.{nothing_outside}
use Rattle.pf_commands.proofs.laws.nothing_is_written_outside.Goals as goal

pub returns : goal.returns
returns c = nothing_outside
