use Rattle.pf_why.proofs.Lawful.{the_first_ones_run}
use Rattle.pf_why.proofs.laws.the_first_ones_run.Goals as goal

pub returns : goal.returns
returns c = the_first_ones_run
